use Rattle.std.proofs.Common.{◌≡◌, ◌+◌, ◌≤◌, length, drop}
use Rattle.cr_model.specs.Callings.{rows_from}
use Rattle.cr_model.specs.Queries.{rows_fitting}
use Rattle.cr_audit.proofs.counting.rung_fitting.Given as goal

abbrev pub invariant-loop-change : goal.invariant-loop-change
invariant-loop-change l = record {
  long : length l.row ≡ length l.fn.from;
  counted : l.number + rows_fitting l.cells (rows_from l.row (drop l.change-index l.changes)) ≡ rows_fitting l.cells (rows_from l.fn.from l.changes);
  few : l.number ≤ l.change-index;
}
