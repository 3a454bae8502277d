-- What the next step tells.
use Rattle.std.proofs.Common.{◌+◌, length, refl, sym, subst, arith}
use Rattle.std.proofs.lemmas.Bool.{false≢true}
use Rattle.cr_rotate.specs.Fronts.{FrontRepeats, FrontTurns}
use Rattle.cr_rotate.proofs.Periods.{turns, still_turned, goes_on, begins_anew, first_step, not_both}
use Rattle.cr_rotate.proofs.WholeFronts.{falls, turned_back}
use Rattle.cr_rotate.proofs.rotations.turns_back.Goals.{then-word-place-2, else-word-place-2}
use Rattle.cr_rotate.proofs.rotations.turns_back.Goals as goal

pub loop-place-init : goal.loop-place-init
loop-place-init c = first_step c.args.word.now

pub returns-then-word-place : goal.returns-then-word-place
returns-then-word-place c =
    let word = c.args.word.now in
    let here = c.loop-place in
    let turned : FrontTurns word (here.place + 1) = turns word here.place here.period here.invariant c.if-word-place.true in
    (λ h. turned_back word (still_turned word (here.place + 1) (length word) (omega (arith, c.loop-place-test.true)) turned), λ h. refl)

pub loop-place-preserved : goal.loop-place-preserved
loop-place-preserved c =
    let word = c.args.word.now in
    let here = c.loop-place in
    elim c.if-word-place-2.branch [
      | then-word-place-2 w ↦ subst (FrontRepeats word (here.place + 1)) (sym w.period-is) (begins_anew word here.place here.period here.invariant w.if-word-place-2.true)
      | else-word-place-2 w ↦ subst (FrontRepeats word (here.place + 1)) (sym w.period-is) (goes_on word here.place here.period here.invariant (omega (arith, c.if-word-place.false, w.if-word-place-2.false)))
    ]

pub returns : goal.returns
returns c =
    let word = c.args.word.now in
    let here = c.loop-place in
    (λ h. absurd (false≢true h), λ turned. absurd (not_both word here.place here.period here.invariant (still_turned word (length word) here.place (omega (arith, c.loop-place-test.false)) (falls word turned))))
