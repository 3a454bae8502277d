use Rattle.std.proofs.Common.{◌≡◌, map, take}
use Rattle.cr_ahead.specs.Home.{is_part_end}
use Rattle.cr_ahead.proofs.ends.ends_of.Given as goal

abbrev pub invariant-loop-head : goal.invariant-loop-head
invariant-loop-head l = l.ends.items ≡ map (is_part_end l.problem) (take l.head-index l.heads)
