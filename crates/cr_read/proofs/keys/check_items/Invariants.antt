use Rattle.std.proofs.Common.{◌≡◌, drop, map}
use Rattle.toml.specs.View.{view}
use Rattle.cr_model.specs.Keys.{items_faults}
use Rattle.cr_read.specs.FirstKeys.{letters_in, key_of}
use Rattle.cr_read.proofs.keys.check_items.Given as goal

abbrev pub invariant-loop-index : goal.invariant-loop-index
invariant-loop-index l =
    items_faults l.part.name.now (map (key_of (letters_in l.methods)) l.part.keys.now) l.index (map view (drop l.index l.items))
    ≡ items_faults l.part.name.now (map (key_of (letters_in l.methods)) l.part.keys.now) 0 (map view l.items)
