use Rattle.std.proofs.Common.{ℕ, ◌<◌}
use Rattle.cr_book.specs.Leads.{IsStepWith}
use Rattle.cr_book.proofs.steps.step_with.Given as goal

abbrev pub invariant-loop-step : goal.invariant-loop-step
invariant-loop-step l = (k : ℕ) → k < l.step → IsStepWith l.problem l.method l.mark k → ⊥
