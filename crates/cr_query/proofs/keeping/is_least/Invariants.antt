use Rattle.std.proofs.Common.{◌≡◌, take}
use Rattle.cr_query.proofs.keeping.is_least.Given as goal

abbrev pub invariant-loop-step : goal.invariant-loop-step
invariant-loop-step l = l.period ≡ take l.step-index l.steps
