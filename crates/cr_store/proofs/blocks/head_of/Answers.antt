use Rattle.std.proofs.Common.{◌<◌, length, subst, arith}
use Rattle.std.proofs.lemmas.List.{take_all}
use Rattle.cr_store.specs.Blocks.{IsTorn}
use Rattle.cr_store.proofs.BlockHeads.{word_torn, word_wrong}
use Rattle.cr_store.proofs.blocks.head_of.Goals as goal

pub returns-then-known-text : goal.returns-then-known-text
returns-then-known-text c = subst IsTorn (take_all c.word_front-known.result c.args.text.now (omega (arith, c.if-known-text.true)))
    (word_torn c.args.text.now c.word_front-known.result c.word_front-known.ensures.most c.word_front-known.ensures.same)

pub returns-else-known-text : goal.returns-else-known-text
returns-else-known-text c =
    let few = c.if-known.true in
    let inside : c.word_front-known.result < length c.args.text.now = omega (arith, c.word_front-known.ensures.inside, c.if-known-text.false) in (
      inside,
      word_torn c.args.text.now c.word_front-known.result c.word_front-known.ensures.most c.word_front-known.ensures.same,
      word_wrong c.args.text.now c.word_front-known.result few inside (c.word_front-known.ensures.next few inside),
    )
