use Rattle.cr_row.proofs.Reached.{AreReached}
use Rattle.cr_row.proofs.rows.is_row.Given as goal

abbrev pub invariant-loop-bell : goal.invariant-loop-bell
invariant-loop-bell l = AreReached l.bells l.bell
