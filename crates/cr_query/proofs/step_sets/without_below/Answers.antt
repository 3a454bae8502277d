use Rattle.std.proofs.Common.{arith}
use Rattle.cr_query.proofs.StepBits.{none_below, same_above}
use Rattle.cr_query.proofs.step_sets.without_below.Goals as goal

pub returns-clause-below : goal.returns-clause-below
returns-clause-below c = none_below c.args.set c.args.first (omega (arith, c.ranges.set.fits)) c.requires

pub returns-clause-others : goal.returns-clause-others
returns-clause-others c = same_above c.args.set c.args.first (omega (arith, c.ranges.set.fits)) c.requires
