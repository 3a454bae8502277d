use Rattle.std.proofs.Common.{arith, below_more}
use Rattle.cr_false.proofs.told_apart.is_told.Goals as goal

pub loop-other-preserved : goal.loop-other-preserved
loop-other-preserved c = below_more _ _ c.loop-other.invariant (c.in_ok-passes.ensures c.if-not-passes.false)

pub returns : goal.returns
returns c = λ _. record {
  apart = λ other low. c.loop-other.invariant other (omega (arith, low, c.loop-other-test.false, c.count-other-end.ensures.is));
  twice = rw (c.rows_of-rows.ensures.is, c.rows_of-told_rows.ensures) at (c.in_ok-twice.ensures c.if-not-twice.false);
}
