use Rattle.std.proofs.Common.{◌≡◌, take}
use Rattle.cr_false.proofs.telling.TellingRows.all.Given as goal

abbrev pub invariant-loop-step : goal.invariant-loop-step
invariant-loop-step l = l.told.items ≡ take l.step l.leads.leads
