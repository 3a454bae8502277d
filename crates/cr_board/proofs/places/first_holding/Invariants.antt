use Rattle.std.proofs.Common.{◌≡◌, ℕ, ◌<◌, false}
use Rattle.cr_board.specs.Choices.{is_holding}
use Rattle.cr_board.proofs.places.first_holding.Given as goal

abbrev pub invariant-loop-worker : goal.invariant-loop-worker
invariant-loop-worker l = (k : ℕ) → k < l.worker → is_holding l.held k ≡ false
