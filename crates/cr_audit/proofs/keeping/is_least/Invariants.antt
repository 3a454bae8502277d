use Rattle.std.proofs.Common.{ℕ, ◌<◌}
use Rattle.cr_model.specs.Decided.{rotated}
use Rattle.cr_model.specs.Touches.{IsLess}
use Rattle.cr_audit.proofs.keeping.is_least.Given as goal

abbrev pub invariant-loop-by : goal.invariant-loop-by
invariant-loop-by l = (k : ℕ) → 0 < k → k < l.by → IsLess (rotated k l.steps) l.steps → ⊥
