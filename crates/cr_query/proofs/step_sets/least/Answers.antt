use Rattle.std.proofs.Common.{arith}
use Rattle.cr_query.proofs.StepBits.{none_of_zero, least_of}
use Rattle.cr_query.proofs.step_sets.least.Goals as goal

pub returns-then-set-eq0-clause-none : goal.returns-then-set-eq0-clause-none
returns-then-set-eq0-clause-none c = none_of_zero c.args.set c.if-set-eq0.true

pub returns-clause-some : goal.returns-clause-some
returns-clause-some c = least_of c.args.set (omega (arith, c.ranges.set.fits)) (omega (arith, c.if-set-eq0.false))
