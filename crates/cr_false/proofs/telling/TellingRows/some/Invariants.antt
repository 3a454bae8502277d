use Rattle.cr_false.proofs.SomeRows.{AreSoFar}
use Rattle.cr_false.proofs.telling.TellingRows.some.Given as goal

abbrev pub invariant-loop-step : goal.invariant-loop-step
invariant-loop-step l = AreSoFar l.leads l.told.items l.step
