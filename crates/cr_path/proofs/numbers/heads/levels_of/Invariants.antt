use Rattle.std.proofs.Common.{◌≡◌, map, take}
use Rattle.cr_model.specs.Levels.{at_least}
use Rattle.cr_model.specs.Sizes.{most_rows}
use Rattle.cr_path.proofs.numbers.heads.levels_of.Given as goal

abbrev pub invariant-loop-head : goal.invariant-loop-head
invariant-loop-head l = l.levels.items ≡ map (at_least l.leads most_rows) (take l.head-index l.heads)
