use Rattle.std.proofs.Common.{refl}
use Rattle.cr_model.specs.Queries.{extent}
use Rattle.cr_ahead.specs.Home.{power, lists_of_steps}
use Rattle.cr_ahead.proofs.laws.home_examples.ways_home_at_the_edges.Goals as goal

pub returns : goal.returns
unfolding extent power lists_of_steps
returns c = record { ways = refl; too_long = refl; too_short = refl; in_parts = refl; length_of_a_part = refl }
