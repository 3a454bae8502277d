use Rattle.std.proofs.Common.{ℕ, ◌<◌}
use Rattle.cr_model.specs.ProblemFiles.{FitsAll}
use Rattle.cr_read.proofs.calls.wrong_length.Given as goal

abbrev pub invariant-loop-call : goal.invariant-loop-call
invariant-loop-call l = (i : ℕ) → i < l.call → FitsAll l.file l.spellings i
