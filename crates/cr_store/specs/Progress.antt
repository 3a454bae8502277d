-- Where a search stands, as a checkpoint holds it.
use Rattle.std.specs.Prelude.{◌≡◌, ℕ, List, length, map}
use Rattle.cr_model.specs.Problems.{ProblemParts}
use Rattle.cr_model.specs.Checkpoints.{nodes_of_jobs}

-- the bytes of the problem's file and the problem, the found touches, and the jobs that are left
pub record Progress : Type 0 where
  pub bytes : List ℕ
  pub problem : ProblemParts
  pub found : List (List ℕ)
  pub jobs : List (List (List ℕ))

-- nodes as jobs of these sizes
pub record AreJobs (sizes : List ℕ) (nodes : List (List ℕ)) (jobs : List (List (List ℕ))) : Type 0 where
  pub nodes_are : nodes_of_jobs jobs ≡ nodes
  pub lengths_are : map length jobs ≡ sizes

-- it has a problem and its bytes, some found touches, and nodes in jobs of these sizes
pub record IsMadeOf (bytes : List ℕ) (p : ProblemParts) (sizes : List ℕ) (found nodes : List (List ℕ)) (c : Progress) : Type 0 where
  pub bytes_are : c.bytes ≡ bytes
  pub problem_is : c.problem ≡ p
  pub found_are : c.found ≡ found
  pub jobs_are : AreJobs sizes nodes c.jobs
