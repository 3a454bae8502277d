use Rattle.std.proofs.Common.{◌≡◌, ◌≤◌, take}
use Rattle.cr_model.specs.Queries.{leads_marked}
use Rattle.cr_log.proofs.counting.leads_marked.Given as goal

abbrev pub invariant-loop-step : goal.invariant-loop-step
invariant-loop-step l = (l.number ≡ leads_marked l.problem l.mark (take l.step-index l.steps)) × (l.number ≤ l.step-index)
