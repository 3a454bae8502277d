use Rattle.std.proofs.Common.{refl}
use Rattle.cr_model.specs.Queries.{extent}
use Rattle.cr_ahead.specs.Home.{power, lists_of_steps}
use Rattle.cr_ahead.proofs.laws.home_examples.a_touch_has_what_its_parts_have.Goals as goal

pub returns : goal.returns
unfolding extent power lists_of_steps
returns c = record { marks = refl; more_marks = refl; rows = refl }
