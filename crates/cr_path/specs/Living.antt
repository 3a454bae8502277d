-- Which children of a node die before they are gone to.
use Rattle.std.specs.Prelude.{◌≡◌, ℕ, ◌<◌, ◌≤◌, Bool, true, false, not, ◌&&◌, ◌||◌, List, length, Option, Some, None, is_none}
use Rattle.cr_model.specs.Problems.{ProblemParts}
use Rattle.cr_model.specs.Callings.{rows_of}
use Rattle.cr_model.specs.Decided.{rows_differ}
use Rattle.cr_model.specs.Dead.{has_rounds, is_long, is_self_false, is_again, is_round, is_far, is_too_many, is_too_few, is_turned_back, dead}
use Rattle.cr_model.specs.Sizes.{child}
use Rattle.cr_query.specs.Meters.{is_hopeless_by_leads}

-- the node has no row twice, and rounds is none of its rows
abbrev pub is_clean : ProblemParts → List ℕ → Bool
is_clean p node = rows_differ (rows_of p node) && not (has_rounds p (rows_of p node))

-- a reason to be dead holds of the node that is told without counting rows that fit patterns
abbrev pub is_cut : ProblemParts → ℕ → List ℕ → Bool
is_cut p most node =
    is_long p node || (is_self_false p node || (is_again p node || (is_round p node || (is_far p most node || (is_turned_back p node || is_hopeless_by_leads p node)))))

-- it has too many or too few of what the query counts
abbrev pub is_hopeless : ProblemParts → List ℕ → Bool
is_hopeless p node = is_too_many p node || is_too_few p node

-- the child by a step is not dead
abbrev pub is_live : ProblemParts → ℕ → List ℕ → ℕ → Bool
is_live p most node step = is_none (dead p most (child node step))

-- the children by the steps from one up to another are cut
abbrev pub AreCut : ProblemParts → ℕ → List ℕ → ℕ → ℕ → Type 0
AreCut p most node from end = (step : ℕ) → from ≤ step → step < end → is_cut p most (child node step) ≡ true

-- the first step from one on by which the child is not cut, or none where all are cut
pub record IsFirst (p : ProblemParts) (most : ℕ) (node : List ℕ) (from step : ℕ) : Type 0 where
  pub from_on : from ≤ step
  pub known : step < length p.leads
  pub uncut : is_cut p most (child node step) ≡ false
  pub before : AreCut p most node from step

abbrev pub IsFirstUncut : ProblemParts → ℕ → List ℕ → ℕ → Option ℕ → Type 0
IsFirstUncut p most node from None = AreCut p most node from (length p.leads)
IsFirstUncut p most node from (Some step) = IsFirst p most node from step
