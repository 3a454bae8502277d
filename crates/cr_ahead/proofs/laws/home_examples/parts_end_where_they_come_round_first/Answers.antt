use Rattle.std.proofs.Common.{refl}
use Rattle.cr_model.specs.Queries.{extent}
use Rattle.cr_ahead.specs.Home.{power, lists_of_steps}
use Rattle.cr_ahead.proofs.laws.home_examples.parts_end_where_they_come_round_first.Goals as goal

pub returns : goal.returns
unfolding extent power lists_of_steps
returns c = record { powers = refl; head = refl; rounds = refl }
