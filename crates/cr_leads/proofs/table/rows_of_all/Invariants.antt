use Rattle.cr_leads.proofs.Steps.{AreRung}
use Rattle.cr_leads.proofs.table.rows_of_all.Given as goal

abbrev pub invariant-loop-step : goal.invariant-loop-step
invariant-loop-step l = AreRung l.table l.steps l.step-index l.head l.rows.items
