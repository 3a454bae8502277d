use Rattle.cr_audit.proofs.Short.{touch_is_short, touch_has_steps}
use Rattle.cr_audit.proofs.touches.touch_of.Goals as goal

pub repeated-requires : goal.repeated-requires
repeated-requires c = rw c.parts.ensures.is (touch_is_short c.args.problem.now c.args.node.now c.parts.ensures.sound c.requires)

pub returns-clause-known : goal.returns-clause-known
returns-clause-known c = touch_has_steps c.args.problem.now c.args.node.now c.requires.steps
