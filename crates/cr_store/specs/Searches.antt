-- A search that went on, before what it found is sorted.
use Rattle.std.specs.Prelude.{ℕ, ◌<◌, List, length, All}
use Rattle.cr_model.specs.Problems.{ProblemParts}
use Rattle.cr_model.specs.Checkpoints.{CanGoOn, nodes_of_jobs}
use Rattle.cr_board.specs.Partitions.{IsPartition}

-- what was found and the jobs that are left are a partition of found touches and jobs from which a search could go on,
-- so many turns have made the size of the nodes less, and no job is empty
pub record WentOn (p : ProblemParts) (found : List (List ℕ)) (jobs : List (List (List ℕ)))
    (now : List (List ℕ)) (left : List (List (List ℕ))) (spent : ℕ) : Type 0 where
  pub began : CanGoOn p found jobs
  pub nodes : IsPartition p found (nodes_of_jobs jobs) now (nodes_of_jobs left) spent
  pub filled : All (λ job. 0 < length job) left
