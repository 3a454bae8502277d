use Rattle.std.proofs.Common.{◌≢◌, ℕ, ◌<◌}
use Rattle.cr_model.specs.Callings.{step_at}
use Rattle.cr_model.proofs.count_checks.has_mark.Given as goal

abbrev pub invariant-loop-index : goal.invariant-loop-index
invariant-loop-index l = (k : ℕ) → k < l.index → (step_at l.leads k).mark ≢ l.mark
