use Rattle.std.proofs.Common.{◌≡◌, ◌≤◌, take, count_by}
use Rattle.cr_query.specs.Shapes.{has_shape}
use Rattle.cr_log.proofs.counting.rows_fitting.Given as goal

abbrev pub invariant-loop-place : goal.invariant-loop-place
invariant-loop-place l = (l.number ≡ count_by (has_shape l.shape) (take l.place l.rows.rows)) × (l.number ≤ l.place)
