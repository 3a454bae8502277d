use Rattle.std.proofs.Common.{refl}
use Rattle.cr_model.specs.Queries.{extent}
use Rattle.cr_model.specs.Levels.{spread, depth, at_least}
use Rattle.cr_model.specs.Dead.{dead}
use Rattle.cr_explore.specs.Turns.{one_turn, after_turns}
use Rattle.cr_explore.proofs.laws.turns_of_examples.Goals as goal

pub returns : goal.returns
unfolding extent spread depth at_least dead one_turn after_turns
returns c = record { one_method = refl; not_begun = refl; first = refl; eleventh = refl; last = refl; of_two_nodes = refl }
