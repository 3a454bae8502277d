use Rattle.cr_row.proofs.Packing.{Kept}
use Rattle.cr_row.proofs.rows.packed.Given as goal

abbrev pub invariant-loop-left : goal.invariant-loop-left
invariant-loop-left l = Kept l.bells l.left l.bits

abbrev pub decreases-loop-left : goal.decreases-loop-left
decreases-loop-left l = l.left
