use Rattle.std.proofs.Common.{ℕ, ◌<◌}
use Rattle.cr_model.specs.Right.{CountIsRight, count_at}
use Rattle.cr_model.proofs.count_checks.wrong_count.Given as goal

abbrev pub invariant-loop-index : goal.invariant-loop-index
invariant-loop-index l = (i : ℕ) → i < l.index → CountIsRight l.leads i (count_at l.counts i)
