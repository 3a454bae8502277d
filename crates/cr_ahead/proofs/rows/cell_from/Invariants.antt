-- the ways whose first step is one of those before
use Rattle.std.proofs.Common.{◌-◌}
use Rattle.cr_ahead.specs.Cells.{told_by, IsCell}
use Rattle.cr_ahead.specs.Rows.{IsFew, BeginsBelow, IsAnswerOf}
use Rattle.cr_ahead.proofs.rows.cell_from.Given as goal

abbrev pub invariant-loop-step : goal.invariant-loop-step
invariant-loop-step l = record {
  cell : IsCell l.cell;
  few : IsFew l.left (told_by l.cell);
  is : IsAnswerOf l.moves l.least l.greatest l.place (l.greatest - l.left) (BeginsBelow l.step) (told_by l.cell);
}
