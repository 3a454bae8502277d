-- What a board covers.
use Rattle.std.proofs.Common.{◌≡◌, ℕ, ◌+◌, ◌≤◌, ◌↔◌, List, [], ap, arith}
use Rattle.cr_model.specs.Problems.{ProblemParts}
use Rattle.cr_model.specs.Touches.{Kept}
use Rattle.cr_model.specs.Nodes.{Covers, nodes_above, times_found}
use Rattle.cr_model.specs.Sizes.{most_rows, size_of_all}
use Rattle.cr_board.specs.Jobs.{opening_nodes}
use Rattle.cr_board.specs.Boards.{BoardParts, jobs_of, nodes_of, nodes_in}
use Rattle.cr_board.specs.Partitions.{IsPartition, Partition}

-- what a law of covers says
abbrev pub AreCounted : Type 0
AreCounted = (p : ProblemParts) (found nodes : List (List ℕ)) (calling : List ℕ)
    → Covers p found nodes calling ↔ (Kept p calling × (1 ≤ times_found found calling + nodes_above p nodes calling))

pub covers_same : AreCounted → (p : ProblemParts) (found nodes now left : List (List ℕ)) (spent : ℕ) → IsPartition p found nodes now left spent
    → (calling : List ℕ) → Covers p now left calling ↔ Covers p found nodes calling
covers_same counted p found nodes now left spent part calling = (
  λ covers. let (kept, some) = (counted p now left calling).0 covers in (counted p found nodes calling).1 (kept, omega (arith, part.each calling kept)),
  λ covers. let (kept, some) = (counted p found nodes calling).0 covers in (counted p now left calling).1 (kept, omega (arith, part.each calling kept)),
)

-- a board without jobs has no node
pub no_nodes : (b : BoardParts) → jobs_of b ≡ [] → nodes_of b ≡ []
no_nodes b none = ap nodes_in none

pub finished_size : (b : BoardParts) → Partition b → jobs_of b ≡ [] → b.spent ≡ size_of_all b.opening.problem most_rows (opening_nodes b.opening)
finished_size b part none =
    let nothing : size_of_all b.opening.problem most_rows (nodes_of b) ≡ 0 = ap (size_of_all b.opening.problem most_rows) (no_nodes b none) in
    omega (arith, part.nodes.size, nothing)
