use Rattle.std.proofs.Common.{◌≡◌, drop, map}
use Rattle.std.specs.List.{list_all}
use Rattle.toml.specs.View.{view}
use Rattle.cr_model.specs.Keys.{is_table}
use Rattle.cr_read.proofs.keys.all_tables.Given as goal

abbrev pub invariant-loop-item : goal.invariant-loop-item
invariant-loop-item l = list_all is_table (map view (drop l.item-index l.items)) ≡ list_all is_table (map view l.items)
