use Rattle.std.proofs.Common.{◌≡◌, ◌++◌, drop}
use Rattle.cr_shard.specs.Reads.{items_of, all_items}
use Rattle.cr_shard.proofs.words.add_words.Given as goal

abbrev pub invariant-loop-shard : goal.invariant-loop-shard
invariant-loop-shard l = items_of l.words.items ++ all_items l.problem (drop l.shard-index l.shards) ≡ items_of l.initial.words.items ++ all_items l.problem l.shards
