use Rattle.std.proofs.Common.{◌-◌, ◌≤◌}
use Rattle.cr_board.specs.Examples.{hunts}
use Rattle.cr_node.specs.Work.{IsDone}
use Rattle.cr_hunter.proofs.hunter.HunterExplorer.explore.Given as goal

abbrev pub invariant-loop-used : goal.invariant-loop-used
invariant-loop-used l = IsDone hunts l.job l.found.items l.rest.items l.used × (l.used ≤ l.turns)

abbrev pub decreases-loop-used : goal.decreases-loop-used
decreases-loop-used l = l.turns - l.used
