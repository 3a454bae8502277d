use Rattle.std.proofs.Common.{◌≡◌, ℕ, ◌<◌, false}
use Rattle.cr_audit.specs.Verdicts.{turns_back_at}
use Rattle.cr_log.proofs.judging.first_back.Given as goal

abbrev pub invariant-loop-step : goal.invariant-loop-step
invariant-loop-step l = (j : ℕ) → j < l.step → turns_back_at l.problem l.node j ≡ false
