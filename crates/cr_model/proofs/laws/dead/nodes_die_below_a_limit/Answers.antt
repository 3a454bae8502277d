use Rattle.std.proofs.Common.{refl}
use Rattle.cr_model.specs.Queries.{extent}
use Rattle.cr_model.specs.Levels.{spread, depth, at_least}
use Rattle.cr_model.specs.Dead.{dead}
use Rattle.cr_model.proofs.laws.dead.nodes_die_below_a_limit.Goals as goal

pub returns : goal.returns
unfolding extent spread depth at_least dead
returns c = record { marks = refl; leads_left_rounded_down = refl; methods = refl; rows = refl; changes_of_method = refl; joins_of_parts = refl }
