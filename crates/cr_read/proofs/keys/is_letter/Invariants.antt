use Rattle.std.proofs.Common.{◌≡◌, [], ◌∷◌, drop}
use Rattle.cr_model.specs.Keys.{is_among}
use Rattle.cr_read.specs.FirstKeys.{letters_in}
use Rattle.cr_read.proofs.keys.is_letter.Given as goal

abbrev pub invariant-loop-method : goal.invariant-loop-method
invariant-loop-method l = is_among (letters_in (drop l.method-index l.methods)) (l.byte ∷ []) ≡ is_among (letters_in l.methods) (l.byte ∷ [])
