use Rattle.cr_model.specs.Checkpoints.{nodes_of_jobs}
use Rattle.cr_shard.proofs.Shards.{covered_once, shard_covers}
use Rattle.cr_shard.proofs.laws.each_calling_is_dealt_once.Goals as goal

pub returns : goal.returns
returns c = record {
  once = λ p found jobs into calling some goes_on covers.
      covered_once p found (nodes_of_jobs jobs) into goes_on.independent calling some covers;
  no_other = λ p found jobs into shard calling covers. shard_covers p found (nodes_of_jobs jobs) into shard calling covers;
}
