use Rattle.std.proofs.Common.{ℕ, ◌<◌}
use Rattle.cr_model.specs.Right.{PatternIsRight, pattern_at}
use Rattle.cr_model.proofs.pattern_checks.wrong_pattern.Given as goal

abbrev pub invariant-loop-index : goal.invariant-loop-index
invariant-loop-index l = (i : ℕ) → i < l.index → PatternIsRight l.stage i (pattern_at l.patterns i)
