use Rattle.std.proofs.Common.{◌≡◌, ◌<◌, ◌+◌, ◌++◌, length, get_or, set, drop, ap, ◌∙◌, arith}
use Rattle.cr_shard.specs.Joins.{all_found}
use Rattle.cr_shard.proofs.Emptied.{emptied_more, taken_more}
use Rattle.cr_shard.proofs.joining.take_found.Goals as goal

pub loop-shard-preserved : goal.loop-shard-preserved
loop-shard-preserved c =
    let shards = c.args.shards.now in
    let now = c.loop-shard.shards in
    let i = c.loop-shard.shard-index in
    let old = get_or now i c.shard-item.result in
    let is : old ≡ get_or now i old = ap (get_or now i) c.shard-item.is in
    let inside : i < length shards = omega (arith, c.loop-shard-test.true, c.loop-shard.auto.shards) in (
      ap (λ l. l ++ all_found (drop (i + 1) shards)) c.in_ok-take_from.ensures.found
          ∙ taken_more shards now i old inside c.loop-shard.invariant.1 is c.loop-shard.found.items c.loop-shard.invariant.0,
      ap (set now i) c.in_ok-take_from.ensures.left ∙ emptied_more shards now i old inside c.loop-shard.invariant.1 is,
    )
