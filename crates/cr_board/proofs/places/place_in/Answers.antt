use Rattle.std.proofs.Common.{length, get_or, [], eq-eqb, sym, ap, ◌∙◌, arith}
use Rattle.cr_board.specs.Choices.{is_number}
use Rattle.cr_board.proofs.Reading.{read_at}
use Rattle.cr_board.proofs.Finding.{first_at, none_at}
use Rattle.cr_board.proofs.places.place_in.Goals as goal

pub returns-then-job-number : goal.returns-then-job-number
returns-then-job-number c = first_at (is_number c.args.lane.now c.args.number) 0 (length c.args.lane.now) c.loop-place.place
    (λ k low below. c.loop-place.invariant k below) (omega arith) c.loop-place-test.true
    (eq-eqb (get_or c.args.lane.now c.loop-place.place (record { number = 0; nodes = [] })).number c.args.number
    (ap (λ job. job.number) (read_at c.args.lane.now c.loop-place.place c.index-lane-place.result (record { number = 0; nodes = [] }) c.loop-place-test.true c.index-lane-place.is)
    ∙ sym (ap (λ job. job.number) c.job.view_is) ∙ c.if-job-number.true))

pub returns : goal.returns
returns c = none_at (is_number c.args.lane.now c.args.number) 0 (length c.args.lane.now) (λ k low below. c.loop-place.invariant k (omega arith))
