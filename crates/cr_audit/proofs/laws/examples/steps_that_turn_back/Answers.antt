use Rattle.std.proofs.Common.{refl}
use Rattle.cr_model.specs.Queries.{extent}
use Rattle.cr_audit.proofs.laws.examples.steps_that_turn_back.Goals as goal

pub returns : goal.returns
unfolding extent
returns c = record { less = refl; greater = refl; with_a_pattern = refl; with_a_limit = refl; root = refl }
