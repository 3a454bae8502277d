use Rattle.std.proofs.Common.{◌≡◌, replicate, [], ◌∷◌, ◌-◌}
use Rattle.cr_board.specs.Rooms.{jobs_on}
use Rattle.cr_board.proofs.lanes.lanes_from.Given as goal

abbrev pub invariant-loop : goal.invariant-loop
invariant-loop l = jobs_on l.lanes.items ≡ l.fn.first.items ∷ replicate (l.counter - 1) []
