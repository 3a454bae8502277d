use Rattle.std.proofs.Common.{◌≡◌, ◌++◌, length, map, reverse}
use Rattle.std.specs.Prelude.{flat_map}
use Rattle.cr_board.specs.Rooms.{jobs_on, nodes_on}
use Rattle.cr_board.proofs.taken_apart.move_lanes.Given as goal

abbrev pub invariant-loop-lane : goal.invariant-loop-lane
invariant-loop-lane l =
    nodes_on l.jobs.items ++ reverse (map (λ job. job.nodes) (flat_map (λ lane. lane) (jobs_on l.lanes.items)))
    ≡ nodes_on l.initial.jobs.items ++ reverse (map (λ job. job.nodes) (flat_map (λ lane. lane) (jobs_on l.initial.lanes.items)))

abbrev pub decreases-loop-lane : goal.decreases-loop-lane
decreases-loop-lane l = length l.lanes.items
