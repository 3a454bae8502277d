use Rattle.std.proofs.Common.{◌≡◌, replicate, None}
use Rattle.cr_board.proofs.lanes.no_holdings.Given as goal

abbrev pub invariant-loop : goal.invariant-loop
invariant-loop l = l.held.items ≡ replicate l.counter None
