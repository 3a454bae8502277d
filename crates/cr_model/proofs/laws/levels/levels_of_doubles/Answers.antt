use Rattle.std.proofs.Common.{refl}
use Rattle.cr_model.specs.Levels.{spread, depth, at_least}
use Rattle.cr_model.proofs.laws.levels.levels_of_doubles.Goals as goal

pub returns : goal.returns
unfolding spread depth at_least
returns c = record { level = refl; depth_of_few = refl; depth = refl; at_least = refl }
