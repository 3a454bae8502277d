use Rattle.std.proofs.Common.{◌*◌, ◌≤◌}
use Rattle.cr_path.proofs.numbers.rung_leads.rows_of_all.Given as goal

abbrev pub invariant-loop-step : goal.invariant-loop-step
invariant-loop-step l = l.rows ≤ 128 * l.step
