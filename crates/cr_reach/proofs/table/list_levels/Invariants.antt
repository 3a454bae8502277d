use Rattle.std.proofs.Common.{◌-◌, length}
use Rattle.cr_reach.specs.Filling.{IsListed}
use Rattle.cr_reach.proofs.table.list_levels.Given as goal

abbrev pub invariant-loop-start : goal.invariant-loop-start
invariant-loop-start l = IsListed l.leads l.most_rows l.depth l.rows l.levels.items l.start

abbrev pub decreases-loop-start : goal.decreases-loop-start
decreases-loop-start l = l.most_rows - length l.rows.rows
