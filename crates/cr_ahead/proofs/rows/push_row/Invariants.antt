use Rattle.std.proofs.Common.{◌≡◌, ◌+◌, ◌*◌, length}
use Rattle.cr_ahead.specs.Moves.{places_of}
use Rattle.cr_ahead.specs.Rows.{AreFew, AreRight}
use Rattle.cr_ahead.proofs.rows.push_row.Given as goal

abbrev pub invariant-loop-place : goal.invariant-loop-place
invariant-loop-place l = record {
  counted : length l.cells.items ≡ l.left * places_of l.moves + l.place;
  few : AreFew (places_of l.moves) l.cells.items;
  right : AreRight l.moves l.least l.greatest l.cells.items;
}
