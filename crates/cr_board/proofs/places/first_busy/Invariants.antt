use Rattle.std.proofs.Common.{◌≡◌, ℕ, ◌<◌, ◌≤◌, false}
use Rattle.cr_board.specs.Choices.{is_busy}
use Rattle.cr_board.specs.Rooms.{jobs_on}
use Rattle.cr_board.proofs.places.first_busy.Given as goal

abbrev pub invariant-loop-lane : goal.invariant-loop-lane
invariant-loop-lane l = (k : ℕ) → l.from ≤ k → k < l.lane → is_busy (jobs_on l.lanes) k ≡ false
