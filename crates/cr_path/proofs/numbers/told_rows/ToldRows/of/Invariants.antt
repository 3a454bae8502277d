use Rattle.cr_path.specs.ToldRows.{AreToldRows}
use Rattle.cr_path.proofs.numbers.told_rows.ToldRows.of.Given as goal

abbrev pub invariant-loop-step : goal.invariant-loop-step
invariant-loop-step l = AreToldRows l.leads (record { told = l.told; rows = l.rows.rows; leads = l.places.items }) l.step
