use Rattle.std.proofs.Common.{map, take}
use Rattle.cr_path.specs.Representatives.{name_of, AreSame}
use Rattle.cr_path.proofs.numbers.row_names.names_of.Given as goal

abbrev pub invariant-loop-row : goal.invariant-loop-row
invariant-loop-row l = AreSame (map (name_of l.cover l.representatives.places.items) (take l.row-index l.lead)) l.names.items
