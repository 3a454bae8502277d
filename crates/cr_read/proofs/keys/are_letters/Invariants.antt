use Rattle.std.proofs.Common.{◌≡◌, [], ◌∷◌, drop}
use Rattle.std.specs.List.{list_all}
use Rattle.cr_model.specs.Keys.{is_among}
use Rattle.cr_read.specs.FirstKeys.{letters_in}
use Rattle.cr_read.proofs.keys.are_letters.Given as goal

abbrev pub invariant-loop-byte : goal.invariant-loop-byte
invariant-loop-byte l = list_all (λ byte. is_among (letters_in l.methods) (byte ∷ [])) (drop l.byte-index l.text) ≡ list_all (λ byte. is_among (letters_in l.methods) (byte ∷ [])) l.text
