-- Each lead is read on from the steps before it, and a wrong byte is the text's first.
use Rattle.std.proofs.Common.{◌+◌, [], ◌∷◌, ◌++◌, take, sym, ap, ◌∙◌, subst, arith}
use Rattle.std.proofs.lemmas.List.{take_rest}
use Rattle.cr_book.specs.Leads.{lead_width, LeadIsWrong, IsReadTo}
use Rattle.cr_book.proofs.WrongPlaces.{read_on, too_many, wrong_lead, all_read}
use Rattle.cr_book.proofs.reading.calling_of.Goals as goal

pub returns-then-len-eq-MOST_LEADS : goal.returns-then-len-eq-MOST_LEADS
returns-then-len-eq-MOST_LEADS c =
    let here = c.loop-place in
    too_many c.args.problem.now c.requires.sound c.args.text.now here.steps.items here.place here.invariant
    (omega (arith, c.if-len-eq-MOST_LEADS.true)) (omega (arith, c.loop-place-test.true))

pub returns-in-Err : goal.returns-in-Err
returns-in-Err c =
    let here = c.loop-place in
    wrong_lead c.args.problem.now c.requires.sound c.args.text.now here.steps.items here.place c.in-Err.wrong here.invariant
    (omega (arith, here.invariant.few, c.if-len-eq-MOST_LEADS.false)) (omega (arith, c.loop-place-test.true))
    (subst (λ l. LeadIsWrong c.args.problem.now l c.in-Err.wrong) (take_rest c.args.text.now here.place) c.in-Err.ensures)

pub loop-place-preserved : goal.loop-place-preserved
loop-place-preserved c =
    let here = c.loop-place in
    let on = read_on c.args.problem.now c.requires.sound c.args.text.now here.steps.items c.in-Ok.step here.place here.invariant
    (omega (arith, here.invariant.few, c.if-len-eq-MOST_LEADS.false)) c.in-Ok.ensures.0
    (c.in-Ok.ensures.1 ∙ ap (take (lead_width c.args.problem.now)) (take_rest c.args.text.now here.place)) in
    subst (λ steps. IsReadTo c.args.problem.now c.args.text.now steps (here.place + c.args.width)) (sym c.in_ok-push-in-Ok.ensures.items)
    (subst (λ w. IsReadTo c.args.problem.now c.args.text.now (here.steps.items ++ c.in-Ok.step ∷ []) (here.place + w)) (sym c.requires.width) on)

pub returns : goal.returns
returns c =
    let here = c.loop-place in
    all_read c.args.problem.now c.requires.sound c.args.text.now here.steps.items here.place c.whole.result here.invariant
    (omega (arith, c.loop-place-test.false)) c.whole.ensures.none c.whole.ensures.some
