use Rattle.std.proofs.Common.{◌≡◌, ◌++◌, drop}
use Rattle.cr_query.specs.Fixing.{fixed_from, HasRoom}
use Rattle.cr_query.proofs.fixing.fixed_places.Given as goal

abbrev pub invariant-loop-index : goal.invariant-loop-index
invariant-loop-index l = record {
  room : HasRoom l.fn.stage l.place (drop l.index l.cells);
  fixed : l.fixed.items ++ fixed_from l.fn.stage l.place (drop l.index l.cells) ≡ fixed_from l.fn.stage 0 l.cells;
}
