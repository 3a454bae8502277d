use Rattle.cr_leads.proofs.Steps.{IsHead}
use Rattle.cr_leads.proofs.table.head_of_all.Given as goal

abbrev pub invariant-loop-step : goal.invariant-loop-step
invariant-loop-step l = IsHead l.table l.steps l.step-index l.head
