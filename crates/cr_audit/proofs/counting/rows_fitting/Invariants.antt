use Rattle.std.proofs.Common.{◌≡◌, ◌≤◌, take}
use Rattle.cr_model.specs.Queries.{rows_fitting}
use Rattle.cr_audit.proofs.counting.rows_fitting.Given as goal

abbrev pub invariant-loop-row : goal.invariant-loop-row
invariant-loop-row l = (l.number ≡ rows_fitting l.cells (take l.row-index l.rows)) × (l.number ≤ l.row-index)
