-- A search that passes by the nodes below which nothing is kept.
use Rattle.std.specs.Prelude.{◌≡◌, ℕ, ◌+◌, ◌≤◌, ◌⊎◌, List, ◌++◌, length}
use Rattle.cr_model.specs.Problems.{ProblemParts}
use Rattle.cr_model.specs.Nodes.{Splits}
use Rattle.cr_model.specs.Dead.{HasNoneBelow}
use Rattle.cr_model.specs.Sizes.{most_rows, size_of_all}
use Rattle.cr_model.specs.OneTurn.{touch_found}

-- a node is dealt with, between what was found before and after, and the step from which on its children are not tried yet: its touch is found, if that is kept, and its children stay as they are; or nothing is kept below it, and its children are all taken as tried
abbrev pub IsDealtWith : ProblemParts → List ℕ → List (List ℕ) → ℕ → List (List ℕ) → ℕ → Type 0
IsDealtWith p node found next now after =
    ((now ≡ found ++ touch_found p node) × (after ≡ next))
    ⊎ (HasNoneBelow p node × (now ≡ found) × (after ≡ length p.leads))

-- what was found and what is left are a split of the job, and each turn took at least one off its size
pub record IsSplitSoFar (p : ProblemParts) (job found rest : List (List ℕ)) (used : ℕ) : Type 0 where
  pub splits : Splits p job found rest
  pub smaller : size_of_all p most_rows rest + used ≤ size_of_all p most_rows job
