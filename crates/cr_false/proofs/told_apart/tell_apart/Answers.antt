use Rattle.std.proofs.Common.{below_more}
use Rattle.cr_false.proofs.told_apart.tell_apart.Goals as goal

pub loop-step-preserved : goal.loop-step-preserved
loop-step-preserved c = below_more _ _ c.loop-step.invariant (c.in_ok-passes.ensures c.if-not-passes.false)
