use Rattle.std.proofs.Common.{◌≡◌, ◌≤◌, take, count_by}
use Rattle.cr_query.specs.Shapes.{has_shape}
use Rattle.cr_query.proofs.shape.Shape.count_rows.Given as goal

abbrev pub invariant-loop-row : goal.invariant-loop-row
invariant-loop-row l = (l.number ≡ count_by (has_shape l.self) (take l.row-index l.rows)) × (l.number ≤ l.row-index)
