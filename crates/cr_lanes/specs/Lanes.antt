-- What is known of lanes at their close.
use Rattle.std.specs.Prelude.{◌≡◌, ℕ, ◌+◌, ◌<◌, List, [], length, sum_by, slice_index_or, All}
use Rattle.cr_lanes.specs.Lane.{times, Ascends}
use Rattle.cr_lanes.specs.Ends.{EndParts}
use Rattle.cr_lanes.specs.Thieves.{ThiefParts}

-- Of each lane, the numbers that its end put ascend, so none is there twice; and they are those that are left, those that
-- the end took and those that the thieves stole from it, each as often.
pub record AreAll (ends : List EndParts) (thieves : List ThiefParts) (left : List (List ℕ)) : Type 0 where
  pub lanes : length left ≡ length ends
  pub rises : All (λ e. Ascends e.put) ends
  pub each : (lane : ℕ) (d : EndParts) (x : ℕ) → lane < length ends → times x (slice_index_or ends lane d).put ≡ times x (slice_index_or left lane []) + times x (slice_index_or ends lane d).taken + sum_by (λ t. times x (slice_index_or t.stolen lane [])) thieves
