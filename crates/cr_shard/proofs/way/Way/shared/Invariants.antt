use Rattle.std.proofs.Common.{◌≡◌, take}
use Rattle.cr_shard.proofs.way.Way.shared.Given as goal

-- both begin alike so far
abbrev pub invariant-loop-index : goal.invariant-loop-index
invariant-loop-index l = take l.index l.self ≡ take l.index l.node
