-- The steps by which the children of a node are not cut.
use Rattle.std.specs.Prelude.{◌≡◌, ℕ, ◌<◌, ◌≤◌, false, not, List, length}
use Rattle.cr_model.specs.Problems.{ProblemParts}
use Rattle.cr_model.specs.Dead.{is_turned_back}
use Rattle.cr_model.specs.Sizes.{most_rows, child}
use Rattle.cr_query.specs.Sets.{has_step}
use Rattle.cr_path.specs.Living.{is_cut}

-- the set has the steps from one on by which the children of a node are not cut, and no others
pub record AreUncut (p : ProblemParts) (node : List ℕ) (next set : ℕ) : Type 0 where
  pub before : (step : ℕ) → step < next → step < 32 → has_step set step ≡ false
  pub each : (step : ℕ) → next ≤ step → step < length p.leads → has_step set step ≡ not (is_cut p most_rows (child node step))
  pub beyond : (step : ℕ) → length p.leads ≤ step → step < 32 → has_step set step ≡ false

-- a set that is found so far has the right ones of the steps below one by which no child turns back, and none of the steps from that one on
pub record AreSeen (p : ProblemParts) (node : List ℕ) (end set : ℕ) : Type 0 where
  pub seen : (step : ℕ) → step < end → is_turned_back p (child node step) ≡ false → has_step set step ≡ not (is_cut p most_rows (child node step))
  pub free : (step : ℕ) → end ≤ step → step < 32 → has_step set step ≡ false
