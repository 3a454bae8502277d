use Rattle.std.proofs.Common.{◌≡◌, ℕ, ◌<◌, false}
use Rattle.cr_board.specs.Choices.{has_number}
use Rattle.cr_board.specs.Rooms.{jobs_on}
use Rattle.cr_board.proofs.places.lane_with.Given as goal

abbrev pub invariant-loop-lane : goal.invariant-loop-lane
invariant-loop-lane l = (k : ℕ) → k < l.lane → has_number (jobs_on l.lanes) l.number k ≡ false
