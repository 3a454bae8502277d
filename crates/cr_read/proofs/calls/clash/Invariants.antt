use Rattle.std.proofs.Common.{ℕ, ◌<◌}
use Rattle.cr_model.specs.ProblemFiles.{AreApart}
use Rattle.cr_read.proofs.calls.clash.Given as goal

abbrev pub invariant-loop-second : goal.invariant-loop-second
invariant-loop-second l = (j : ℕ) → j < l.second → (i : ℕ) → i < j → AreApart l.file i j
