use Rattle.std.proofs.Common.{refl}
use Rattle.cr_model.specs.Queries.{extent}
use Rattle.cr_ahead.specs.Home.{power, lists_of_steps}
use Rattle.cr_ahead.proofs.laws.home_examples.ways_that_have_just_enough.Goals as goal

pub returns : goal.returns
unfolding extent power lists_of_steps
returns c = record { marks = refl; more_marks = refl; methods = refl; more_methods = refl; rows = refl; more_rows = refl; changes = refl; more_changes = refl }
