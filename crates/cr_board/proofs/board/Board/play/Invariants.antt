use Rattle.std.proofs.Common.{◌≡◌, take}
use Rattle.cr_board.specs.Steps.{Ran}
use Rattle.cr_board.proofs.board.Board.play.Given as goal

abbrev pub invariant-loop-event : goal.invariant-loop-event
invariant-loop-event g l = Ran l.initial.self (take l.event-index l.events) l.self × (l.self.opening ≡ l.initial.self.opening)
