use Rattle.std.proofs.Common.{◌≡◌, map, take}
use Rattle.cr_path.specs.Numbers.{next_head}
use Rattle.cr_path.proofs.numbers.records.next_heads_of.Given as goal

abbrev pub invariant-loop-lead : goal.invariant-loop-lead
invariant-loop-lead l = l.next.items ≡ map (next_head l.steps) (take l.lead-index l.leads)
