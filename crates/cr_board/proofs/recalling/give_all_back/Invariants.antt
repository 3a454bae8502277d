use Rattle.std.proofs.Common.{◌≡◌, vec_len}
use Rattle.cr_board.specs.Jobs.{OpeningParts}
use Rattle.cr_board.specs.Moves.{back_below}
use Rattle.cr_board.specs.Rooms.{parts_of, HasRooms}
use Rattle.cr_board.proofs.recalling.give_all_back.Given as goal

abbrev pub invariant-loop-worker : goal.invariant-loop-worker
invariant-loop-worker l = ((o : OpeningParts) → parts_of o l.state ≡ back_below (parts_of o l.initial.state) l.worker) × HasRooms l.state
    × (vec_len l.state.held ≡ vec_len l.initial.state.held) × (vec_len l.state.lanes ≡ vec_len l.initial.state.lanes) × (l.state.resigned ≡ l.initial.state.resigned)
