use Rattle.std.proofs.Common.{refl}
use Rattle.cr_model.specs.Queries.{extent}
use Rattle.cr_audit.proofs.laws.examples.open_and_long_meet_at_the_cap.Goals as goal

pub returns : goal.returns
unfolding extent
returns c = record { valid = refl; long = refl; root = refl; steps = refl }
