use Rattle.std.proofs.Common.{◌≡◌}
use Rattle.cr_path.specs.PathLimits.{false_leads}
use Rattle.cr_path.proofs.numbers.records.twice_of.Given as goal

abbrev pub invariant-loop-step : goal.invariant-loop-step
invariant-loop-step l = l.twice.items ≡ false_leads l.leads l.step
