use Rattle.std.proofs.Common.{◌≡◌, ◌++◌, length, map, reverse}
use Rattle.cr_board.specs.Rooms.{nodes_on}
use Rattle.cr_board.proofs.taken_apart.move_lane.Given as goal

abbrev pub invariant-loop-job : goal.invariant-loop-job
invariant-loop-job l =
    nodes_on l.jobs.items ++ reverse (map (λ job. job.nodes) l.lane.items)
    ≡ nodes_on l.initial.jobs.items ++ reverse (map (λ job. job.nodes) l.initial.lane.items)

abbrev pub decreases-loop-job : goal.decreases-loop-job
decreases-loop-job l = length l.lane.items
