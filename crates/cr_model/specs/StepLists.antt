-- The steps of a list, wherever they lie. No public clause cites this module.
use Rattle.std.specs.Prelude.{ℕ, List}
use Rattle.cr_model.specs.declared.step_list.Place.{Place}
use Rattle.cr_model.specs.declared.step_list.Place.TheVariants.{Inside, Outside}

abbrev pub steps_at : Place → List ℕ
steps_at (Inside few) = few
steps_at (Outside steps) = steps.items
