use Rattle.std.proofs.Common.{◌≡◌}
use Rattle.cr_store.specs.Blocks.{blocks}
use Rattle.cr_store.specs.Written.{lists}
use Rattle.cr_shard.specs.Deals.{first_shards}
use Rattle.cr_shard.proofs.cut.cut_blocks.Given as goal

abbrev pub invariant-loop-shard : goal.invariant-loop-shard
invariant-loop-shard l = l.text.items ≡ blocks (first_shards l.problem l.problem_bytes l.found (lists l.jobs) l.into l.shard)
