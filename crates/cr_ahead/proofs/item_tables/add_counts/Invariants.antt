-- the tables of those before are added
use Rattle.std.proofs.Common.{List, ◌++◌, map, take}
use Rattle.cr_ahead.specs.Items.{Item, count_item}
use Rattle.cr_ahead.specs.Outlooks.{AreGround, AreItemTables}
use Rattle.cr_ahead.proofs.item_tables.add_counts.Given as goal

abbrev pub invariant-loop-index : goal.invariant-loop-index
invariant-loop-index l = record {
  ground : AreGround l.problem l.heads l.range l.moves;
  tables : (items : List Item) → AreItemTables l.problem l.heads l.range.unit items l.initial.tables.items
      → AreItemTables l.problem l.heads l.range.unit (items ++ map (count_item l.problem) (take l.index l.counts)) l.tables.items;
}
