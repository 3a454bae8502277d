use Rattle.std.proofs.Common.{refl}
use Rattle.cr_model.specs.Queries.{extent}
use Rattle.cr_audit.proofs.laws.examples.items_that_have_too_many.Goals as goal

pub returns : goal.returns
unfolding extent
returns c = record { marks = refl; marks_in_parts = refl; methods = refl; rows = refl; changes_of_method = refl; long = refl; none = refl }
