use Rattle.cr_book.specs.Pieces.{pieces_joined}
use Rattle.cr_shard.proofs.ShardPieces.{AreWritten}
use Rattle.cr_shard.proofs.pieces.pieces_of.Given as goal

abbrev pub invariant-loop-shard : goal.invariant-loop-shard
invariant-loop-shard l = AreWritten l.problem l.problem_bytes l.initial.shards l.front l.shards l.shard (pieces_joined l.pieces.items)
