use Rattle.cr_model.proofs.LeastRotation.{kept_rotation}
use Rattle.cr_model.proofs.laws.touches.each_wanted_class_has_a_kept_one.Goals as goal

pub returns : goal.returns
returns c = kept_rotation
