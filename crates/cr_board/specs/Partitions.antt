-- The partition that a board keeps of what its opening covers.
use Rattle.std.specs.Prelude.{◌≡◌, ℕ, ◌+◌, ◌<◌, true, false, List, length, get_or, All, None}
use Rattle.cr_model.specs.Problems.{ProblemParts}
use Rattle.cr_model.specs.Touches.{Kept}
use Rattle.cr_model.specs.Nodes.{IsValid, Independent, Covers, nodes_above, times_found}
use Rattle.cr_model.specs.Sizes.{most_rows, size_of_all}
use Rattle.cr_board.specs.Jobs.{IsOpening, opening_nodes}
use Rattle.cr_board.specs.Boards.{BoardParts, held_at, jobs_of, nodes_of}
use Rattle.cr_board.specs.ReplayStates.{IsReplayed}

-- found touches and nodes are a partition of those before: each kept touch stands as often in one as in the other, and
-- the turns spent are what the size has lost
pub record IsPartition (p : ProblemParts) (found nodes now left : List (List ℕ)) (spent : ℕ) : Type 0 where
  pub each : (calling : List ℕ) → Kept p calling
      → times_found now calling + nodes_above p left calling ≡ times_found found calling + nodes_above p nodes calling
  pub kept : All (Kept p) now
  pub independent : Independent p now left
  pub valid : All (IsValid p) left
  pub size : size_of_all p most_rows left + spent ≡ size_of_all p most_rows nodes

-- each kept touch that was covered before was found once, or has one node above it, and never both. Another kept touch
-- has neither, and nothing was found that was not covered
pub record EachOnce (p : ProblemParts) (found nodes now left : List (List ℕ)) : Type 0 where
  pub covered : (calling : List ℕ) → Covers p found nodes calling → times_found now calling + nodes_above p left calling ≡ 1
  pub uncovered : (calling : List ℕ) → Kept p calling → (Covers p found nodes calling → ⊥) → times_found now calling + nodes_above p left calling ≡ 0
  pub unfound : (calling : List ℕ) → (Covers p found nodes calling → ⊥) → times_found now calling ≡ 0

-- one lane, one place to hold a job and one flag for each worker
pub record HasShape (b : BoardParts) : Type 0 where
  pub lanes : length b.lanes ≡ b.opening.workers
  pub held : length b.held ≡ b.opening.workers
  pub resigned : length b.resigned ≡ b.opening.workers

-- a board's found touches and the nodes of its lanes and held jobs are a partition of its opening's; no job is empty,
-- and who resigned holds nothing
pub record Partition (b : BoardParts) : Type 0 where
  pub shape : HasShape b
  pub nodes : IsPartition b.opening.problem b.opening.found (opening_nodes b.opening) b.found (nodes_of b) b.spent
  pub filled : All (λ job. 0 < length job.nodes) (jobs_of b)
  pub resigned : (worker : ℕ) → get_or b.resigned worker false ≡ true → held_at b.held worker ≡ None

-- what every board keeps: the facts of its opening, the partition, and that the journal tells it
pub record IsKept (b : BoardParts) : Type 0 where
  pub opening : IsOpening b.opening
  pub partition : Partition b
  pub replayed : IsReplayed b
