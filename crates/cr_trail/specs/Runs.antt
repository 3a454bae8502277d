-- How a search goes on from found touches and jobs, and where it ends.
use Rattle.std.specs.Prelude.{◌≡◌, ℕ, ◌<◌, ◌≤◌, ◌⊎◌, ◌-◌, ⊤, min, List, [], ◌++◌, length, All, Option, Some, None, option_map}
use Rattle.cr_model.specs.Problems.{ProblemParts}
use Rattle.cr_model.specs.Sizes.{most_rows, size_of_all}
use Rattle.cr_model.specs.Checkpoints.{nodes_of_jobs}
use Rattle.cr_board.specs.Partitions.{IsPartition}
use Rattle.cr_store.specs.Searches.{WentOn}

-- the size of the nodes of jobs
abbrev pub size_of_jobs : ProblemParts → List (List (List ℕ)) → ℕ
size_of_jobs p jobs = size_of_all p most_rows (nodes_of_jobs jobs)

-- no more turns were used than are allowed
abbrev pub KeepsTo : Option ℕ → ℕ → Type 0
KeepsTo None used = ⊤
KeepsTo (Some turns) used = used ≤ turns

-- a search went on until no job was left or the turns that are allowed were used. What it found is not sorted
pub record RunsTo (p : ProblemParts) (found : List (List ℕ)) (jobs : List (List (List ℕ))) (turns : Option ℕ)
    (now : List (List ℕ)) (left : List (List (List ℕ))) : Type 0 where
  pub used : ℕ
  pub way : WentOn p found jobs now left used
  pub keeps : KeepsTo turns used
  pub ends : (left ≡ []) ⊎ (turns ≡ Some used)

-- a search went on from jobs, until none was left or the turns that are allowed were used: what it found stands behind
-- what was found before, in whatever order that is
pub record RunsOn (p : ProblemParts) (found : List (List ℕ)) (jobs : List (List (List ℕ))) (turns : Option ℕ)
    (now : List (List ℕ)) (left : List (List (List ℕ))) : Type 0 where
  pub more : List (List ℕ)
  pub behind : now ≡ found ++ more
  pub run : RunsTo p [] jobs turns more left

-- one board, which was opened with the jobs alone, went on until no job was left or its turns were used: what it found
-- and left is a partition of the jobs, and none that it left is empty
pub record BoardRan (p : ProblemParts) (jobs : List (List (List ℕ))) (turns : ℕ)
    (now : List (List ℕ)) (left : List (List (List ℕ))) (used : ℕ) : Type 0 where
  pub nodes : IsPartition p [] (nodes_of_jobs jobs) now (nodes_of_jobs left) used
  pub filled : All (λ job. 0 < length job) left
  pub keeps : used ≤ turns
  pub ends : (left ≡ []) ⊎ (turns ≡ used)

-- the turns of the next board, of which none takes more than so many
abbrev pub board_turns : Option ℕ → ℕ → ℕ
board_turns None most = most
board_turns (Some turns) most = min turns most

-- the turns that are allowed after so many were used
abbrev pub turns_after : Option ℕ → ℕ → Option ℕ
turns_after turns used = option_map (λ most. most - used) turns

-- a search under way, before what it found is sorted, with so many turns allowed still
pub record UnderWay (p : ProblemParts) (found : List (List ℕ)) (jobs : List (List (List ℕ))) (turns : Option ℕ)
    (now : List (List ℕ)) (left : List (List (List ℕ))) (allowed : Option ℕ) : Type 0 where
  pub used : ℕ
  pub way : WentOn p found jobs now left used
  pub keeps : KeepsTo turns used
  pub rest : allowed ≡ turns_after turns used

-- the same behind touches that were found before: what it found so far comes behind them
pub record OnTheWay (p : ProblemParts) (found : List (List ℕ)) (jobs : List (List (List ℕ))) (turns : Option ℕ)
    (now : List (List ℕ)) (left : List (List (List ℕ))) (allowed : Option ℕ) : Type 0 where
  pub more : List (List ℕ)
  pub behind : now ≡ found ++ more
  pub way : UnderWay p [] jobs turns more left allowed
