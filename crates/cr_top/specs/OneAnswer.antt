-- The one answer that an input of a search is due.
use Rattle.std.specs.Prelude.{◌≡◌, ℕ, ◌^◌, ◌<◌, ◌≤◌, List, length}
use Rattle.cr_model.specs.Problems.{ProblemParts}
use Rattle.cr_model.specs.Sizes.{most_rows, size_of_all}
use Rattle.cr_model.specs.Inputs.{Input}
use Rattle.cr_model.specs.declared.file_fault.ProblemFault.{ProblemFault}
use Rattle.cr_store.specs.declared.fault.CheckFault.{CheckFault}
use Rattle.cr_top.specs.Texts.{IsNoProblem, IsNoCheckpoint}

-- an input has one size and no fault, bytes have one fault of a kind at most, and nodes that are left have a size
pub record HasOneAnswer (input : List ℕ) : Type 0 where
  pub size : length input ≤ 2 ^ 40 → (bytes : List ℕ) (p : ProblemParts) (found nodes others : List (List ℕ)) (other : List ℕ) (q : ProblemParts) (these : List (List ℕ))
      → Input input bytes p found nodes → Input input other q others these → size_of_all p most_rows nodes ≡ size_of_all q most_rows these
  pub some : (bytes : List ℕ) (p : ProblemParts) (found nodes : List (List ℕ)) → Input input bytes p found nodes
      → (left : List (List ℕ)) → 0 < length left → 1 ≤ size_of_all p most_rows left
  pub no_problem_fault : (bytes : List ℕ) (p : ProblemParts) (found nodes : List (List ℕ)) (fault : ProblemFault)
      → Input input bytes p found nodes → IsNoProblem input fault → ⊥
  pub no_check_fault : length input ≤ 2 ^ 40 → (bytes : List ℕ) (p : ProblemParts) (found nodes : List (List ℕ)) (fault : CheckFault)
      → Input input bytes p found nodes → IsNoCheckpoint input fault → ⊥
  pub one_problem_fault : (one other : ProblemFault) → IsNoProblem input one → IsNoProblem input other → one ≡ other
  pub one_check_fault : (one other : CheckFault) → IsNoCheckpoint input one → IsNoCheckpoint input other → one ≡ other
