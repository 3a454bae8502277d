use Rattle.cr_reach.proofs.Fitting.{AreFitted}
use Rattle.cr_reach.proofs.table.fitted.Given as goal

abbrev pub invariant-loop-place : goal.invariant-loop-place
invariant-loop-place l = AreFitted l.rows.rows l.number l.place l.stack
