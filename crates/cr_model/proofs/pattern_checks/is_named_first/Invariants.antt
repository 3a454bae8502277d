use Rattle.std.proofs.Common.{◌≢◌, ℕ, ◌<◌, Some}
use Rattle.cr_model.specs.Right.{bell_named, cell_at}
use Rattle.cr_model.proofs.pattern_checks.is_named_first.Given as goal

abbrev pub invariant-loop-earlier : goal.invariant-loop-earlier
invariant-loop-earlier l = (j : ℕ) → j < l.earlier → bell_named (cell_at l.cells j) ≢ Some l.bell
