use Rattle.cr_lanes.proofs.Places.{takes_all}
use Rattle.cr_lanes.proofs.laws.an_end_alone_takes_all.Goals as goal

pub returns : goal.returns
returns c = takes_all
