-- The steps of a node, wherever they lie. No public clause cites this module.
use Rattle.std.specs.Prelude.{ℕ, List}
use Rattle.cr_node.specs.declared.node.Place.{Place}
use Rattle.cr_node.specs.declared.node.Place.TheVariants.{Inside, Outside}

abbrev pub steps_at : Place → List ℕ
steps_at (Inside few) = few
steps_at (Outside steps) = steps.items
