use Rattle.std.proofs.Common.{ℕ, ◌<◌}
use Rattle.cr_false.specs.Telling.{IsTold}
use Rattle.cr_false.proofs.told_apart.tell_apart.Given as goal

abbrev pub invariant-loop-step : goal.invariant-loop-step
invariant-loop-step l = (step : ℕ) → step < l.step → IsTold l.leads l.told step
