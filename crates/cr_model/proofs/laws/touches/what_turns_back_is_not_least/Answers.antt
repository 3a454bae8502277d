use Rattle.cr_model.proofs.TurnedBack.{turns_back_decided, lesser_rotation}
use Rattle.cr_model.proofs.laws.touches.what_turns_back_is_not_least.Goals as goal

pub returns : goal.returns
returns c = record { decided = turns_back_decided; lesser = lesser_rotation }
