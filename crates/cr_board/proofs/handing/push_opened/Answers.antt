use Rattle.std.proofs.Common.{◌+◌, ◌++◌, set, sym, ap, ◌∙◌, arith}
use Rattle.std.proofs.lemmas.List.{length-map}
use Rattle.cr_board.specs.Jobs.{JobParts, numbered}
use Rattle.cr_board.specs.Boards.{lane_at}
use Rattle.cr_board.specs.Moves.{opened_jobs}
use Rattle.cr_board.specs.Rooms.{jobs_on}
use Rattle.cr_board.proofs.Reading.{two_put}
use Rattle.cr_board.proofs.handing.push_opened.Goals as goal

pub push_job-requires-in-Halves-2-clause-room : goal.push_job-requires-in-Halves-2-clause-room
push_job-requires-in-Halves-2-clause-room c = c.push_job-in-Halves.ensures.own 1 c.requires.room

pub returns-in-Halves-clause-lanes : goal.returns-in-Halves-clause-lanes
returns-in-Halves-clause-lanes c =
    let lanes = jobs_on c.args.lanes.now.items in
    let first : JobParts = record { number = c.args.next; nodes = c.in-Halves.first.items } in
    let second : JobParts = record { number = c.args.next + 1; nodes = c.in-Halves.second.items } in
    c.push_job-in-Halves-2.ensures.lanes
    ∙ two_put lanes (jobs_on c.push_job-in-Halves.new.lanes.items) c.args.worker first second
    (omega (arith, c.requires.inside, c.args.lanes.now.ok, length-map c.args.lanes.now.items (λ lane. lane.items))) c.push_job-in-Halves.ensures.lanes
    ∙ ap (λ opened. set lanes c.args.worker (lane_at lanes c.args.worker ++ numbered c.args.next (opened_jobs opened))) (sym c.in-Halves.is)

pub returns-in-Halves-clause-others : goal.returns-in-Halves-clause-others
returns-in-Halves-clause-others c = λ lane more differ room. c.push_job-in-Halves-2.ensures.others lane more differ (c.push_job-in-Halves.ensures.others lane more differ room)
