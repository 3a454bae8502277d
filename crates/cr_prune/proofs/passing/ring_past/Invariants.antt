use Rattle.std.proofs.Common.{◌≡◌, length, take, Some}
use Rattle.cr_prune.specs.Parts.{RingsPast}
use Rattle.cr_prune.proofs.passing.ring_past.Given as goal

abbrev pub invariant-loop-change : goal.invariant-loop-change
invariant-loop-change l = record {
  stage : length l.row ≡ length l.fn.from;
  past : RingsPast l.stack.rows l.fn.from (take l.change-index l.changes) (Some l.row);
}
