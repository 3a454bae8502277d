use Rattle.std.proofs.Common.{◌≡◌, ◌++◌, length, drop}
use Rattle.cr_model.specs.Callings.{rows_from}
use Rattle.cr_audit.proofs.path.ring.Given as goal

abbrev pub invariant-loop-change : goal.invariant-loop-change
invariant-loop-change l = record {
  long : length l.row ≡ length l.fn.from;
  rows : l.rows.items ++ rows_from l.row (drop l.change-index l.changes) ≡ l.initial.rows.items ++ rows_from l.fn.from l.changes;
}
