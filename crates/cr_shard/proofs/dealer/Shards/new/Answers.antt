use Rattle.std.proofs.Common.{All, [], ◌∷◌, length, sym, subst, arith, ap}
use Rattle.std.proofs.lemmas.List.{length-append}
use Rattle.std.proofs.lemmas.List.Elements.{All-push}
use Rattle.cr_shard.specs.Dealers.{AreLinesOf}
use Rattle.cr_shard.proofs.dealer.Shards.new.Goals as goal

pub loop-shard-preserved : goal.loop-shard-preserved
loop-shard-preserved c =
    let is = c.in_ok-push.ensures.items in (
      omega (arith, ap length is, length-append c.loop-shard.lines.items (c.in_ok-with_room.field-0 ∷ []), c.loop-shard.invariant.0),
      λ p. subst (All (AreLinesOf p [])) (sym is) (All-push (AreLinesOf p []) c.loop-shard.lines.items c.in_ok-with_room.field-0 (c.loop-shard.invariant.1 p) (c.in_ok-with_room.ensures p)),
    )
