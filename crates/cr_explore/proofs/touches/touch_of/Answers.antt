use Rattle.cr_explore.proofs.Short.{touch_is_short}
use Rattle.cr_explore.proofs.touches.touch_of.Goals as goal

pub repeated-requires : goal.repeated-requires
repeated-requires c = rw c.parts.ensures.is (touch_is_short c.args.problem.now c.args.node.now c.parts.ensures.sound c.requires)
