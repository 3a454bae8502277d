use Rattle.std.proofs.Common.{◌≡◌, ◌≤◌, take}
use Rattle.cr_model.specs.Queries.{leads_lettered}
use Rattle.cr_log.proofs.counting.leads_lettered.Given as goal

abbrev pub invariant-loop-step : goal.invariant-loop-step
invariant-loop-step l = (l.number ≡ leads_lettered l.problem l.letter (take l.step-index l.steps)) × (l.number ≤ l.step-index)
