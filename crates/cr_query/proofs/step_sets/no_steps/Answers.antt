use Rattle.std.proofs.Common.{refl}
use Rattle.cr_query.proofs.StepBits.{none_of_zero}
use Rattle.cr_query.proofs.step_sets.no_steps.Goals as goal

pub returns : goal.returns
returns c = none_of_zero 0 refl
