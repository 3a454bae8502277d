use Rattle.cr_false.proofs.SomeRows.{AreAmong}
use Rattle.cr_false.proofs.telling.some_rows.Given as goal

abbrev pub invariant-loop-index : goal.invariant-loop-index
invariant-loop-index l = AreAmong l.rows l.told.items l.index
