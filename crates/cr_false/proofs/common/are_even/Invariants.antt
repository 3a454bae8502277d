use Rattle.std.proofs.Common.{ℕ, ◌<◌}
use Rattle.cr_leads.specs.Tables.{lead_head}
use Rattle.cr_false.specs.Telling.{IsEven}
use Rattle.cr_false.proofs.common.are_even.Given as goal

abbrev pub invariant-loop-step : goal.invariant-loop-step
invariant-loop-step l = (step : ℕ) → step < l.step → IsEven (lead_head l.leads step)
