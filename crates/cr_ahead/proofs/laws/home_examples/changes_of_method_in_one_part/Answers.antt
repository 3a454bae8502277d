use Rattle.std.proofs.Common.{refl}
use Rattle.cr_model.specs.Queries.{extent}
use Rattle.cr_ahead.specs.Home.{power, lists_of_steps}
use Rattle.cr_ahead.proofs.laws.home_examples.changes_of_method_in_one_part.Goals as goal

pub returns : goal.returns
unfolding extent power lists_of_steps
returns c = record { one = refl; root = refl; heads = refl; parts = refl }
