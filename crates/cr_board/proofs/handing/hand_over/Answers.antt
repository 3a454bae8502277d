use Rattle.std.proofs.Common.{◌<◌, length, sym, ap, ◌∙◌, arith}
use Rattle.cr_board.specs.Choices.{is_holding}
use Rattle.cr_board.specs.Rooms.{holding}
use Rattle.cr_board.proofs.Rooms.{free_lanes, free_count}
use Rattle.cr_board.proofs.handing.hand_over.Goals as goal

pub returns-clause-rooms : goal.returns-clause-rooms
returns-clause-rooms c =
    let state = c.args.state.now in
    let inside : c.args.worker < length state.held.items = omega (arith, c.requires.worker, state.held.ok) in
    record {
      lanes = λ k holds. free_lanes state.lanes.items c.push_opened-opened.new.lanes.items state.held.items c.args.worker c.requires.rooms.lanes inside
          c.push_opened-opened.ensures.others k (ap (λ h. is_holding h k) (sym c.let_go.ensures.held) ∙ holds);
      journal = omega (arith, ap holding c.let_go.ensures.held, free_count state.held.items c.args.worker inside c.requires.holds, c.put.ensures.len, c.put.ensures.room, c.requires.rooms.journal);
    }
