use Rattle.std.proofs.Common.{◌≡◌, ◌+◌, take, sum_by}
use Rattle.cr_board.specs.Boards.{held_grant}
use Rattle.cr_board.proofs.taking.promised_turns.Given as goal

abbrev pub invariant-loop-held : goal.invariant-loop-held
invariant-loop-held l = l.turns ≡ l.fn.state.spent + sum_by held_grant (take l.held-index l.fn.state.held.items)
