use Rattle.std.proofs.Common.{ℕ, ◌<◌}
use Rattle.cr_model.specs.ProblemFiles.{OverIsRight}
use Rattle.cr_read.proofs.calls.wrong_over.Given as goal

abbrev pub invariant-loop-call : goal.invariant-loop-call
invariant-loop-call l = (i : ℕ) → i < l.call → OverIsRight l.file i
