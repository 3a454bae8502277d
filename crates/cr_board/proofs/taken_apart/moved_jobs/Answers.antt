use Rattle.std.proofs.Common.{◌++◌, map, reverse, ap, ◌∙◌}
use Rattle.std.specs.Prelude.{flat_map}
use Rattle.cr_board.specs.Boards.{held_jobs}
use Rattle.cr_board.specs.Rooms.{jobs_on, nodes_on}
use Rattle.cr_board.proofs.Reading.{moved_back}
use Rattle.cr_board.proofs.taken_apart.moved_jobs.Goals as goal

pub returns : goal.returns
returns c =
    let lanes = flat_map (λ lane. lane) (jobs_on c.args.lanes.items) in
    let held = flat_map held_jobs c.args.held.items in
    moved_back c.move_lanes.new.jobs.items c.reverse.new.self.items lanes held
    (c.in_ok-move_lanes.ensures ∙ ap (λ l. l ++ reverse (map (λ job. job.nodes) lanes)) (c.in_ok-move_held.ensures ∙ ap (λ l. nodes_on l ++ reverse (map (λ job. job.nodes) held)) c.new-jobs.ensures.items))
    c.reverse.ensures.items
