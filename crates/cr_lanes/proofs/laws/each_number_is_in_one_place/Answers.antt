use Rattle.cr_lanes.proofs.Places.{once, in_one_place}
use Rattle.cr_lanes.proofs.laws.each_number_is_in_one_place.Goals as goal

pub returns : goal.returns
returns c = record { ascends = once; lane = in_one_place }
