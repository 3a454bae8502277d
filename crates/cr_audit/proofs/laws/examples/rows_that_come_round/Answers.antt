use Rattle.std.proofs.Common.{refl}
use Rattle.cr_model.specs.Queries.{extent}
use Rattle.cr_audit.proofs.laws.examples.rows_that_come_round.Goals as goal

pub returns : goal.returns
unfolding extent
returns c = record { one_part = refl; two_parts = refl; two_leads = refl; within_a_lead = refl; root = refl }
