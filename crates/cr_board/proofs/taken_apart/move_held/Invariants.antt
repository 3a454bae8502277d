use Rattle.std.proofs.Common.{◌≡◌, ◌++◌, length, map, reverse}
use Rattle.std.specs.Prelude.{flat_map}
use Rattle.cr_board.specs.Boards.{held_jobs}
use Rattle.cr_board.specs.Rooms.{nodes_on}
use Rattle.cr_board.proofs.taken_apart.move_held.Given as goal

abbrev pub invariant-loop-mine : goal.invariant-loop-mine
invariant-loop-mine l =
    nodes_on l.jobs.items ++ reverse (map (λ job. job.nodes) (flat_map held_jobs l.held.items))
    ≡ nodes_on l.initial.jobs.items ++ reverse (map (λ job. job.nodes) (flat_map held_jobs l.initial.held.items))

abbrev pub decreases-loop-mine : goal.decreases-loop-mine
decreases-loop-mine l = length l.held.items
