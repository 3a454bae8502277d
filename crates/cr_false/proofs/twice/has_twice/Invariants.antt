use Rattle.cr_false.proofs.Repeated.{AreSeen}
use Rattle.cr_false.proofs.twice.has_twice.Given as goal

abbrev pub invariant-loop-row : goal.invariant-loop-row
invariant-loop-row l = AreSeen l.rows l.row-index l.seen
