use Rattle.std.proofs.Common.{◌≡◌, ℕ, ◌<◌, false}
use Rattle.cr_board.specs.Choices.{is_number}
use Rattle.cr_board.proofs.places.place_in.Given as goal

abbrev pub invariant-loop-place : goal.invariant-loop-place
invariant-loop-place l = (k : ℕ) → k < l.place → is_number l.lane l.number k ≡ false
