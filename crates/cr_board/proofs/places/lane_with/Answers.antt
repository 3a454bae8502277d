use Rattle.std.proofs.Common.{length, is_some, sym, ap, ◌∙◌, arith}
use Rattle.cr_board.specs.Choices.{has_number, place_in}
use Rattle.cr_board.specs.Rooms.{jobs_on}
use Rattle.cr_board.proofs.Reading.{lane_read}
use Rattle.cr_board.proofs.Finding.{first_at, none_at, none_more}
use Rattle.cr_board.proofs.places.lane_with.Goals as goal

pub returns-then-is_some-clause-is : goal.returns-then-is_some-clause-is
returns-then-is_some-clause-is c = first_at (has_number (jobs_on c.args.lanes.now) c.args.number) 0 (length c.args.lanes.now) c.loop-lane.lane
    (λ k low below. c.loop-lane.invariant k below) (omega arith) c.loop-lane-test.true
    (ap (λ l. is_some (place_in l c.args.number)) (lane_read c.args.lanes.now c.loop-lane.lane c.index-lanes-lane.result c.loop-lane-test.true c.index-lanes-lane.is ∙ sym c.deref.ensures.value)
    ∙ ap is_some (sym c.place_in.ensures) ∙ sym c.is_some.ensures ∙ c.if-is_some.true)

pub loop-lane-preserved : goal.loop-lane-preserved
loop-lane-preserved c = λ k below. none_more (has_number (jobs_on c.args.lanes.now) c.args.number) 0 c.loop-lane.lane
    (λ j low under. c.loop-lane.invariant j under)
    (ap (λ l. is_some (place_in l c.args.number)) (lane_read c.args.lanes.now c.loop-lane.lane c.index-lanes-lane.result c.loop-lane-test.true c.index-lanes-lane.is ∙ sym c.deref.ensures.value)
    ∙ ap is_some (sym c.place_in.ensures) ∙ sym c.is_some.ensures ∙ c.if-is_some.false)
    k (omega arith) below

pub returns-clause-is : goal.returns-clause-is
returns-clause-is c = none_at (has_number (jobs_on c.args.lanes.now) c.args.number) 0 (length c.args.lanes.now) (λ k low below. c.loop-lane.invariant k (omega arith))
