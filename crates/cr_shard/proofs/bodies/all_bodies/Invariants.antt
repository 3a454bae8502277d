use Rattle.std.proofs.Common.{◌-◌, length}
use Rattle.cr_shard.specs.Reads.{bytes_seen, IsReadTo}
use Rattle.cr_shard.proofs.bodies.all_bodies.Given as goal

abbrev pub invariant-loop-place : goal.invariant-loop-place
invariant-loop-place l = IsReadTo l.text l.at (bytes_seen l.bodies.items)

abbrev pub decreases-loop-place : goal.decreases-loop-place
decreases-loop-place l = length l.text - l.at
