use Rattle.std.proofs.Common.{refl}
use Rattle.cr_model.specs.Queries.{extent}
use Rattle.cr_model.specs.Levels.{spread, depth, at_least}
use Rattle.cr_model.specs.Dead.{dead}
use Rattle.cr_model.proofs.laws.dead.nodes_that_turn_back_die.Goals as goal

pub returns : goal.returns
unfolding extent spread depth at_least dead
returns c = record { words = refl; node = refl; with_a_pattern = refl; with_a_limit = refl }
