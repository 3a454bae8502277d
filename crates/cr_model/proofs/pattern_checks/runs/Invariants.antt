use Rattle.std.proofs.Common.{◌≡◌, ◌≤◌, take, count_by}
use Rattle.cr_model.specs.Right.{is_run}
use Rattle.cr_model.proofs.pattern_checks.runs.Given as goal

abbrev pub invariant-loop-cell : goal.invariant-loop-cell
invariant-loop-cell l = (l.number ≡ count_by is_run (take l.cell-index l.cells)) × (l.number ≤ l.cell-index)
