use Rattle.cr_store.specs.Written.{lists}
use Rattle.cr_top.proofs.ShardParts.{cut_of_start}
use Rattle.cr_top.proofs.sharding.shards_of.Goals as goal

pub returns-in-Ok : goal.returns-in-Ok
returns-in-Ok c =
    let start = c.in-Ok.start in
    cut_of_start c.args.input.items start.bytes.items start.problem start.left.found.items (lists start.left.jobs.items) c.args.into c.in-Ok.ensures c.cut_start.result c.cut_start.ensures
