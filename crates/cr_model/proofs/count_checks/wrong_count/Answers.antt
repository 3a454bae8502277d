use Rattle.std.proofs.Common.{below_more}
use Rattle.cr_model.proofs.count_checks.wrong_count.Goals as goal

pub loop-index-preserved : goal.loop-index-preserved
loop-index-preserved c = below_more _ _ c.loop-index.invariant (c.count_is_right.ensures.0 c.if-not-count_is_right.false)
