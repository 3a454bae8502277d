use Rattle.cr_model.proofs.Rotations.{itself, back, onward}
use Rattle.cr_model.proofs.laws.touches.rotations_are_an_equivalence.Goals as goal

pub returns : goal.returns
returns c = record { itself = itself; back = back; onward = onward }
