use Rattle.std.proofs.Common.{ℕ, ◌<◌}
use Rattle.cr_model.specs.ProblemFiles.{MarkIsRight, mark_at}
use Rattle.cr_read.proofs.calls.wrong_mark.Given as goal

abbrev pub invariant-loop-call : goal.invariant-loop-call
invariant-loop-call l = (i : ℕ) → i < l.call → MarkIsRight (mark_at l.file i)
