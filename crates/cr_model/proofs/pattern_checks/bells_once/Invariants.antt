use Rattle.std.proofs.Common.{◌≡◌, ◌≢◌, ℕ, ◌<◌, Some}
use Rattle.cr_model.specs.Right.{bell_named, cell_at}
use Rattle.cr_model.proofs.pattern_checks.bells_once.Given as goal

abbrev pub invariant-loop-index : goal.invariant-loop-index
invariant-loop-index l = (k : ℕ) → k < l.index → (j b : ℕ) → j < k → bell_named (cell_at l.cells j) ≡ Some b → bell_named (cell_at l.cells k) ≢ Some b
