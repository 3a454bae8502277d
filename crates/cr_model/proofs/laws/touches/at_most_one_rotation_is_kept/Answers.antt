use Rattle.cr_model.proofs.Rotations.{kept_once}
use Rattle.cr_model.proofs.laws.touches.at_most_one_rotation_is_kept.Goals as goal

pub returns : goal.returns
returns c = kept_once
