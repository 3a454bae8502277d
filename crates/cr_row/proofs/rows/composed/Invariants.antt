use Rattle.cr_row.proofs.Packing.{Composed}
use Rattle.cr_row.proofs.rows.composed.Given as goal

abbrev pub invariant-loop-left : goal.invariant-loop-left
invariant-loop-left l = Composed l.stage l.first l.second l.left l.bits

abbrev pub decreases-loop-left : goal.decreases-loop-left
decreases-loop-left l = l.left
