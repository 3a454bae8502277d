use Rattle.std.proofs.Common.{refl}
use Rattle.cr_model.specs.Queries.{extent}
use Rattle.cr_model.specs.Levels.{spread, depth, at_least}
use Rattle.cr_model.specs.Dead.{dead}
use Rattle.cr_model.proofs.laws.dead.nodes_die_at_the_edges.Goals as goal

pub returns : goal.returns
unfolding extent spread depth at_least dead
returns c = record { long = refl; long_first = refl; self_false = refl; again = refl; round = refl; round_in_parts = refl; far = refl }
