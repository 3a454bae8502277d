use Rattle.std.proofs.Common.{sym, ◌∙◌, arith}
use Rattle.cr_board.specs.Choices.{is_busy}
use Rattle.cr_board.specs.Rooms.{jobs_on}
use Rattle.cr_board.proofs.Reading.{busy_read, idle_read}
use Rattle.cr_board.proofs.Finding.{first_at, none_at, none_more}
use Rattle.cr_board.proofs.places.first_busy.Goals as goal

pub returns-then-not-is_empty : goal.returns-then-not-is_empty
returns-then-not-is_empty c = first_at (is_busy (jobs_on c.args.lanes.now)) c.args.from c.args.end c.loop-lane.lane
    c.loop-lane.invariant (omega arith) c.loop-lane-test.true
    (busy_read c.args.lanes.now c.loop-lane.lane c.index-lanes-lane.result (omega arith) c.index-lanes-lane.is (sym c.is_empty.ensures ∙ c.if-not-is_empty.true))

pub loop-lane-preserved : goal.loop-lane-preserved
loop-lane-preserved c = none_more (is_busy (jobs_on c.args.lanes.now)) c.args.from c.loop-lane.lane c.loop-lane.invariant
    (idle_read c.args.lanes.now c.loop-lane.lane c.index-lanes-lane.result (omega arith) c.index-lanes-lane.is (sym c.is_empty.ensures ∙ c.if-not-is_empty.false))

pub returns : goal.returns
returns c = none_at (is_busy (jobs_on c.args.lanes.now)) c.args.from c.args.end (λ k low below. c.loop-lane.invariant k low (omega arith))
