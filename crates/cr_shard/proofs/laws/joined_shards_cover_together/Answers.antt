use Rattle.cr_shard.proofs.JoinedFacts.{joined_covers, covered_by_some}
use Rattle.cr_shard.proofs.laws.joined_shards_cover_together.Goals as goal

pub returns : goal.returns
returns c = record {
  checkpoint = joined_covers;
  covers = λ shards bytes p text joined calling. covered_by_some p shards joined.found joined.same calling;
}
