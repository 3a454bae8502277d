use Rattle.cr_model.proofs.LeastLeads.{depth_has_room, depth_is_greatest}
use Rattle.cr_model.proofs.laws.levels.the_depth_is_greatest.Goals as goal

pub returns : goal.returns
returns c = record { room = depth_has_room; greatest = depth_is_greatest }
