use Rattle.std.proofs.Common.{◌≡◌, ◌++◌, drop}
use Rattle.cr_store.specs.Written.{jobs_seen}
use Rattle.cr_shard.specs.Joins.{all_jobs}
use Rattle.cr_shard.proofs.joining.jobs_of_all.Given as goal

abbrev pub invariant-loop-shard : goal.invariant-loop-shard
invariant-loop-shard l = jobs_seen l.jobs.items ++ all_jobs (drop l.shard-index l.shards) ≡ all_jobs l.shards
