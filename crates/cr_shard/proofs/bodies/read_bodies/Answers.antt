use Rattle.std.proofs.Common.{◌+◌, List, sym, subst, take}
use Rattle.cr_store.specs.Progress.{Progress}
use Rattle.cr_shard.specs.Joins.{AreRead}
use Rattle.cr_shard.specs.Reads.{bytes_seen}
use Rattle.cr_shard.proofs.BodyReads.{read_more, refused_at}
use Rattle.cr_shard.proofs.bodies.read_bodies.Goals as goal

pub returns-in-Err : goal.returns-in-Err
returns-in-Err c = refused_at c.args.bodies.now c.loop-index.index _ c.loop-index.shards.items c.in-Err.why c.loop-index-test.true c.loop-index.invariant c.in-Err.ensures

pub loop-index-preserved : goal.loop-index-preserved
loop-index-preserved c =
    let more = read_more c.args.bodies.now c.loop-index.index _ c.loop-index.shards.items c.in-Ok.shard c.loop-index-test.true c.loop-index.invariant c.in-Ok.ensures in
    subst (λ (shards : List Progress). AreRead (take (c.loop-index.index + 1) (bytes_seen c.args.bodies.now)) shards) (sym c.in_ok-push-in-Ok.ensures.items) more
