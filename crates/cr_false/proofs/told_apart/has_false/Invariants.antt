use Rattle.std.proofs.Common.{ℕ, ◌<◌, [], get_or}
use Rattle.cr_row.specs.Rows.{product}
use Rattle.cr_false.proofs.SomeRows.{HasProduct}
use Rattle.cr_false.proofs.told_apart.has_false.Given as goal

abbrev pub invariant-loop-row : goal.invariant-loop-row
invariant-loop-row l = (i : ℕ) → i < l.row-index → HasProduct l.set.rows (product (get_or l.rows i []) l.inverse) l.common.bells.items l.common.even
