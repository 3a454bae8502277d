use Rattle.std.proofs.Common.{◌≡◌, ◌++◌, map, take, drop}
use Rattle.cr_shard.specs.Joins.{all_found}
use Rattle.cr_shard.specs.Reads.{without_found}
use Rattle.cr_shard.proofs.joining.take_found.Given as goal

-- what the first shards found was taken out of them
abbrev pub invariant-loop-shard : goal.invariant-loop-shard
invariant-loop-shard l =
    (l.found.items ++ all_found (drop l.shard-index l.initial.shards) ≡ all_found l.initial.shards)
    × (l.shards ≡ map without_found (take l.shard-index l.initial.shards) ++ drop l.shard-index l.initial.shards)
