use Rattle.std.proofs.Common.{◌≡◌, ◌≤◌, take, count_by}
use Rattle.cr_row.specs.Rows.{product}
use Rattle.cr_query.specs.Shapes.{has_shape}
use Rattle.cr_query.proofs.shape.Shape.count_lead.Given as goal

abbrev pub invariant-loop-row : goal.invariant-loop-row
invariant-loop-row l = (l.number ≡ count_by (λ row. has_shape l.self (product l.head row)) (take l.row-index l.lead)) × (l.number ≤ l.row-index)
