use Rattle.std.proofs.Common.{◌≡◌, map, take}
use Rattle.cr_model.specs.ProblemFiles.{byte_of}
use Rattle.cr_read.proofs.letters.letters_of.Given as goal

abbrev pub invariant-loop-method : goal.invariant-loop-method
invariant-loop-method l = l.letters.items ≡ map (λ method. byte_of method.letter) (take l.method-index l.file.methods)
