use Rattle.std.proofs.Common.{inr, subst}
use Rattle.cr_shard.specs.JoinFaults.{bytes_at}
use Rattle.cr_shard.specs.Reads.{TellsOverlap}
use Rattle.cr_shard.proofs.join.check_overlaps.Goals as goal

pub returns-in-Some : goal.returns-in-Some
returns-in-Some c =
    let p = c.args.problem.now in
    let shards = c.args.shards.now in
    inr (bytes_at shards 0, p, c.requires.of_one, subst (TellsOverlap p shards) c.in-Some.is c.in_ok-pair.ensures)
