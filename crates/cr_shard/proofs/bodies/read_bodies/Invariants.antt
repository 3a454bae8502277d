use Rattle.std.proofs.Common.{take}
use Rattle.cr_shard.specs.Joins.{AreRead}
use Rattle.cr_shard.specs.Reads.{bytes_seen}
use Rattle.cr_shard.proofs.bodies.read_bodies.Given as goal

abbrev pub invariant-loop-index : goal.invariant-loop-index
invariant-loop-index l = AreRead (take l.index (bytes_seen l.bodies)) l.shards.items
