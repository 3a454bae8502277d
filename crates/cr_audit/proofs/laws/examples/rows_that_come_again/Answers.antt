use Rattle.std.proofs.Common.{refl}
use Rattle.cr_model.specs.Queries.{extent}
use Rattle.cr_audit.proofs.laws.examples.rows_that_come_again.Goals as goal

pub returns : goal.returns
unfolding extent
returns c = record { two_leads = refl; plain = refl; root = refl }
