-- From what a search goes on.
use Rattle.std.specs.Prelude.{ℕ, List}
use Rattle.cr_model.specs.Problems.{ProblemParts}
use Rattle.cr_model.specs.ProblemFiles.{ProblemFile}
use Rattle.cr_model.specs.Checkpoints.{CanGoOn, nodes_of_jobs}
use Rattle.cr_model.specs.Inputs.{Input}
use Rattle.cr_trail.specs.Trails.{Says}

-- the input is of this problem's bytes and this problem, it says these found touches and jobs, and a search goes on from
-- them
pub record IsStart (input bytes : List ℕ) (p : ProblemParts) (found : List (List ℕ)) (jobs : List (List (List ℕ))) : Type 0 where
  pub says : Says input bytes p found jobs
  pub of_input : Input input bytes p found (nodes_of_jobs jobs)
  pub file : ProblemFile bytes p
  pub goes_on : CanGoOn p found jobs
