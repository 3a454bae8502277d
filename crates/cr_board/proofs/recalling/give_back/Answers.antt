use Rattle.std.proofs.Common.{◌<◌, length, is_some, sym, ap, ◌∙◌, arith}
use Rattle.cr_board.specs.Choices.{is_holding}
use Rattle.cr_board.specs.Rooms.{holding}
use Rattle.cr_board.proofs.Rooms.{free_lanes, free_count}
use Rattle.cr_board.proofs.recalling.give_back.Goals as goal

pub returns-in-Some-clause-rooms : goal.returns-in-Some-clause-rooms
returns-in-Some-clause-rooms c =
    let state = c.args.state.now in
    let inside : c.args.worker < length state.held.items = omega (arith, c.requires.held, state.held.ok) in
    record {
      lanes = λ k holds. free_lanes state.lanes.items c.push_job.new.lanes.items state.held.items c.args.worker c.requires.rooms.lanes inside
          c.push_job.ensures.others k (ap (λ h. is_holding h k) (sym c.let_go.ensures.held) ∙ holds);
      journal = omega (arith, ap holding c.let_go.ensures.held, free_count state.held.items c.args.worker inside (ap is_some (sym c.let_go.ensures.is ∙ c.in-Some.is)), c.put.ensures.len, c.put.ensures.room, c.requires.rooms.journal);
    }
