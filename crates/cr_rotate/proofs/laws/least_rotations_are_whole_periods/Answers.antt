use Rattle.cr_rotate.proofs.LeastRotations.{least_rotations}
use Rattle.cr_rotate.proofs.laws.least_rotations_are_whole_periods.Goals as goal

pub returns : goal.returns
returns c = least_rotations
