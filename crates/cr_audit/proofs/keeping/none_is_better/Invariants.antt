use Rattle.std.proofs.Common.{ℕ, ◌<◌}
use Rattle.cr_audit.specs.Keeping.{IsBetter}
use Rattle.cr_audit.proofs.keeping.none_is_better.Given as goal

abbrev pub invariant-loop-by : goal.invariant-loop-by
invariant-loop-by l = (k : ℕ) → 0 < k → k < l.by → IsBetter l.problem l.touch k → ⊥
