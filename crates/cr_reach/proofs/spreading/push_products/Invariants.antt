use Rattle.std.proofs.Common.{◌≡◌, map, take}
use Rattle.cr_row.specs.Rows.{product}
use Rattle.cr_reach.specs.Spreading.{pushed}
use Rattle.cr_reach.proofs.spreading.push_products.Given as goal

abbrev pub invariant-loop-inverse : goal.invariant-loop-inverse
invariant-loop-inverse l = l.rows ≡ pushed l.initial.rows (map (product l.row) (take l.inverse-index l.inverses))
