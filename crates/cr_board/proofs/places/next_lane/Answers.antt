use Rattle.std.proofs.Common.{length, sym, ◌∙◌}
use Rattle.cr_board.specs.Choices.{is_busy}
use Rattle.cr_board.specs.Rooms.{jobs_on}
use Rattle.cr_board.proofs.Finding.{round_up, round_down}
use Rattle.cr_board.proofs.places.next_lane.Goals as goal

pub returns-in-Some : goal.returns-in-Some
returns-in-Some c = round_up (is_busy (jobs_on c.args.lanes.now)) c.args.worker (length c.args.lanes.now) c.in-Some.lane (sym c.in-Some.is ∙ c.first_busy.ensures)

pub returns-in-None : goal.returns-in-None
returns-in-None c = round_down (is_busy (jobs_on c.args.lanes.now)) c.args.worker (length c.args.lanes.now) c.first_busy-in-None.result (sym c.in-None.is ∙ c.first_busy.ensures) c.first_busy-in-None.ensures
