use Rattle.std.proofs.Common.{refl}
use Rattle.cr_model.specs.Queries.{extent}
use Rattle.cr_audit.proofs.laws.examples.items_that_have_too_few.Goals as goal

pub returns : goal.returns
unfolding extent
returns c = record { marks = refl; leads_left_rounded_down = refl; methods = refl; rows = refl; changes_of_method = refl; joins_of_parts = refl; root = refl; long = refl; none = refl }
