use Rattle.cr_lanes.proofs.Places.{new_is_empty}
use Rattle.cr_lanes.proofs.laws.a_new_lane_is_empty.Goals as goal

pub returns : goal.returns
returns c = new_is_empty
