use Rattle.std.proofs.Common.{refl}
use Rattle.cr_model.specs.Queries.{extent}
use Rattle.cr_model.specs.Levels.{spread, depth, at_least}
use Rattle.cr_model.specs.Dead.{dead}
use Rattle.cr_model.specs.Sizes.{size_within}
use Rattle.cr_model.proofs.laws.sizes.sizes_count_nodes.Goals as goal

pub returns : goal.returns
unfolding extent spread depth at_least dead size_within
returns c = record { one_method = refl; two_methods = refl; together = refl }
