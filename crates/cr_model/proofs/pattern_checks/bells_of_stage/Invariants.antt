use Rattle.std.proofs.Common.{ℕ, ◌<◌, ◌≤◌}
use Rattle.std.specs.Prelude.{IfSome}
use Rattle.cr_model.specs.Right.{bell_named, cell_at}
use Rattle.cr_model.proofs.pattern_checks.bells_of_stage.Given as goal

abbrev pub invariant-loop-index : goal.invariant-loop-index
invariant-loop-index l = (k : ℕ) → k < l.index → IfSome (bell_named (cell_at l.cells k)) (λ b. b ≤ l.stage)
