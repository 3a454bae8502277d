use Rattle.cr_shard.proofs.Shards.{shard_is_checkpoint}
use Rattle.cr_shard.proofs.laws.shards_are_checkpoints.Goals as goal

pub returns : goal.returns
returns c = shard_is_checkpoint
