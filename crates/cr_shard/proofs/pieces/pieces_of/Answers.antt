use Rattle.std.proofs.Common.{◌≡◌, ◌<◌, cond, nat_eq, length, ap, ◌∙◌, subst, arith}
use Rattle.cr_book.specs.Pieces.{pieces_joined}
use Rattle.cr_store.specs.Blocks.{blocks}
use Rattle.cr_shard.specs.Deals.{first_shards}
use Rattle.cr_shard.specs.Dealers.{AreLinesOf}
use Rattle.cr_shard.proofs.Cutting.{all_shards}
use Rattle.cr_shard.proofs.ShardPieces.{shard_written}
use Rattle.cr_shard.proofs.pieces.pieces_of.Goals as goal

pub loop-shard-preserved : goal.loop-shard-preserved
loop-shard-preserved c =
    let shard = c.loop-shard.shard in
    let inside : shard < length c.loop-shard.shards = omega (arith, c.loop-shard-test.true, c.loop-shard.auto.shard-end, c.loop-shard.invariant.many) in
    shard_written c.args.problem.now c.args.problem_bytes.now c.args.shards.now c.args.front.now c.in_ok-bare.bare.items c.front_for.result.now c.loop-shard.shards shard
    (pieces_joined c.loop-shard.pieces.items) (pieces_joined c.add_shard.new.pieces.items) c.index-shards-shard.result c.add_shard.new.lines c.loop-shard.invariant inside
    c.index-shards-shard.is c.in_ok-bare.ensures (c.front_for.ensures ∙ ap (cond (nat_eq shard 0) c.args.front.now) c.deref.ensures.value)
    (λ q nodes are. c.in_ok-add_shard.ensures q nodes (subst (AreLinesOf q nodes) c.index-shards-shard.is are))

pub returns : goal.returns
returns c = λ found jobs front_is have.
    let p = c.args.problem.now in
    let bytes = c.args.problem_bytes.now in
    let into = length c.args.shards.now in
    let text = pieces_joined c.loop-shard.pieces.items in
    let ended : c.loop-shard.shard ≡ into = omega (arith, c.loop-shard-test.false, c.loop-shard.auto.shard-end, c.loop-shard.invariant.many) in
    all_shards p bytes found jobs into text
    (c.loop-shard.invariant.is found jobs front_is have ∙ ap (λ n. blocks (first_shards p bytes found jobs into n)) ended)
