use Rattle.std.proofs.Common.{◌<◌, length, sym, ap, ◌∙◌, arith}
use Rattle.cr_board.specs.Choices.{is_holding}
use Rattle.cr_board.specs.Rooms.{holding}
use Rattle.cr_board.specs.declared.held.Held.{Held}
use Rattle.cr_board.proofs.Rooms.{hold_lanes, hold_count}
use Rattle.cr_board.proofs.taking.hold.Goals as goal

pub returns-clause-rooms : goal.returns-clause-rooms
returns-clause-rooms c =
    let state = c.args.state.now in
    let mine : Held = record { job = c.take_job-job.result; grant = c.args.grant } in
    let inside : c.args.worker < length state.held.items = omega (arith, c.requires.worker, state.held.ok) in
    record {
      lanes = λ k holds. hold_lanes state.lanes.items c.take_job-job.new.lanes.items state.held.items c.args.worker c.requires.rooms.lanes mine
          c.take_job-job.ensures.room c.requires.lane k (ap (λ h. is_holding h k) (sym c.take_hold.ensures) ∙ holds);
      journal = omega (arith, ap holding c.take_hold.ensures, hold_count state.held.items c.args.worker mine inside c.requires.idle, c.put.ensures.len, c.put.ensures.room, c.requires.journal);
    }
