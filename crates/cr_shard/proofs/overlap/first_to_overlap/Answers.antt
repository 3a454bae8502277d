use Rattle.std.proofs.Common.{arith}
use Rattle.cr_shard.proofs.Earliest.{nothing_meets, some_meet}
use Rattle.cr_shard.proofs.overlap.first_to_overlap.Goals as goal

pub loop-high-init : goal.loop-high-init
loop-high-init c = (some_meet c.args.problem.now c.args.shards.now c.requires, omega arith, nothing_meets c.args.problem.now c.args.shards.now, c.requires)
