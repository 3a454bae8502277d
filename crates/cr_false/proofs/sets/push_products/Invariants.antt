use Rattle.std.proofs.Common.{◌≡◌, map, take}
use Rattle.cr_row.specs.Rows.{product}
use Rattle.cr_false.specs.Sets.{Adds}
use Rattle.cr_false.proofs.sets.push_products.Given as goal

abbrev pub invariant-loop-row : goal.invariant-loop-row
invariant-loop-row l = record {
  adds : Adds l.initial.set.rows (map (λ row. product row l.inverse) (take l.row-index l.rows)) l.set.rows;
  same_room : l.set.room ≡ l.initial.set.room;
}
