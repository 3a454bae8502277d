-- How a search ended, beside what it found and left.
use Rattle.std.specs.Prelude.{◌≡◌, ℕ, ◌⊎◌, List, [], Option, Some, None}
use Rattle.cr_model.specs.Problems.{ProblemParts}
use Rattle.cr_store.specs.Searches.{WentOn}

-- some search went on to what was found, which is not sorted, and to the jobs that are left
pub record IsLeft (p : ProblemParts) (now : List (List ℕ)) (left : List (List (List ℕ))) : Type 0 where
  pub found : List (List ℕ)
  pub jobs : List (List (List ℕ))
  pub used : ℕ
  pub way : WentOn p found jobs now left used

-- the search stopped after so many turns, where some job is left; or none is left, or any number was allowed
abbrev pub StopsAfter : List (List (List ℕ)) → Option ℕ → Option ℕ → Type 0
StopsAfter left turns None = (left ≡ []) ⊎ (turns ≡ None)
StopsAfter left turns (Some after) = (left ≡ [] → ⊥) × (turns ≡ Some after)
