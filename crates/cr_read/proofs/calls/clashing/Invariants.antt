use Rattle.std.proofs.Common.{ℕ, ◌<◌}
use Rattle.cr_model.specs.ProblemFiles.{AreApart}
use Rattle.cr_read.proofs.calls.clashing.Given as goal

abbrev pub invariant-loop-first : goal.invariant-loop-first
invariant-loop-first l = (i : ℕ) → i < l.first → AreApart l.file i l.second
