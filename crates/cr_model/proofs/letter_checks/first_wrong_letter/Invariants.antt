use Rattle.std.proofs.Common.{ℕ, ◌<◌}
use Rattle.cr_model.specs.Right.{LetterIsRight}
use Rattle.cr_model.proofs.letter_checks.first_wrong_letter.Given as goal

abbrev pub invariant-loop-index : goal.invariant-loop-index
invariant-loop-index l = (i : ℕ) → i < l.index → LetterIsRight l.letters i
