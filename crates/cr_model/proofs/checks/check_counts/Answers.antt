use Rattle.std.proofs.Common.{refl}
use Rattle.cr_model.proofs.checks.check_counts.Goals as goal

pub returns-in-Some : goal.returns-in-Some
returns-in-Some c = (c.in-Some.index, refl, rw c.counts_of.ensures at c.in-Some.ensures)

pub returns-in-None : goal.returns-in-None
returns-in-None c = rw c.counts_of.ensures at c.in-None.ensures
