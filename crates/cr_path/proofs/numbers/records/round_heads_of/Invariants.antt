use Rattle.std.proofs.Common.{◌≡◌, map, take}
use Rattle.cr_path.specs.Numbers.{comes_round}
use Rattle.cr_path.proofs.numbers.records.round_heads_of.Given as goal

abbrev pub invariant-loop-head : goal.invariant-loop-head
invariant-loop-head l = l.round_heads.items ≡ map (comes_round l.leads) (take l.head-index l.heads)
