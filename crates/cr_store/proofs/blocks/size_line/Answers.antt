use Rattle.std.proofs.Common.{◌≡◌, get_or, arith, subst}
use Rattle.std.proofs.lemmas.List.{take_all}
use Rattle.cr_store.specs.Blocks.{IsTorn}
use Rattle.cr_store.proofs.BlockHeads.{sizing_torn, sizing_wrong}
use Rattle.cr_store.proofs.blocks.size_line.Goals as goal
use Rattle.cr_store.proofs.blocks.size_line.Goals.{else-text-place-eq10-via-then-text-place-eq10+else-size-gt0, else-text-place-eq10-via-else-text-place-eq10}

pub returns-in-None : goal.returns-in-None
returns-in-None c = sizing_wrong c.args.text.now c.requires.word c.loop-place.place c.loop-place.size c.loop-place.invariant
    c.loop-place-test.true c.in-None.ensures.none (λ feed. elim c.else-text-place-eq10.branch [
      | else-text-place-eq10-via-then-text-place-eq10+else-size-gt0 w ↦ omega (arith, w.if-size-gt0.false)
      | else-text-place-eq10-via-else-text-place-eq10 w ↦ absurd (w.if-text-place-eq10.false feed)
    ])

pub returns : goal.returns
returns c = subst IsTorn (take_all c.loop-place.place c.args.text.now c.loop-place-test.false)
    (sizing_torn c.args.text.now c.requires.word c.loop-place.place c.loop-place.size c.loop-place.invariant)
