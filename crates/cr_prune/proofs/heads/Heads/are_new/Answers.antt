-- A lead further along: it shares no row, or it shares one.
use Rattle.std.proofs.Common.{◌≡◌, ℕ, ◌+◌, ◌<◌, ◌∙◌, List, length, get_or, take, ap, sym, subst, arith, refl}
use Rattle.std.proofs.lemmas.Bool.{false≢true}
use Rattle.std.proofs.lemmas.List.{length-map, take_all}
use Rattle.cr_model.specs.Callings.{changes_of, rows_from, rows_of, head_of}
use Rattle.cr_prune.specs.Heads.{HeadsParts, steps_of}
use Rattle.cr_prune.specs.Parts.{AreNew}
use Rattle.cr_prune.specs.declared.heads.Earlier.{Earlier}
use Rattle.cr_prune.proofs.Clashes.{known_at, known_steps, head_row, inverse_row, new_further, shared_old}
use Rattle.cr_prune.proofs.heads.Heads.are_new.Goals as goal

pub clash-requires-clause-known : goal.clash-requires-clause-known
clash-requires-clause-known c =
    let items = c.deref-earlier-items.ensures.value in
    let low = subst (λ (xs : List Earlier). c.loop-earlier.earlier-index < length xs) items c.loop-earlier-test.true in
    let lead = known_at _ _ _ c.self.inside.earlier.items c.loop-earlier.earlier-index c.earlier-item.result c.self.invariant.0 low
    (c.earlier-item.is ∙ ap (λ (xs : List Earlier). get_or xs c.loop-earlier.earlier-index c.earlier-item.result) items) in
    lead.known

pub clash-requires-clause-step : goal.clash-requires-clause-step
clash-requires-clause-step c =
    let steps = known_steps c.self.inside.problem.now c.self.inside.table.now c.self.invariant.0.table_is in
    let step : c.args.step < length c.self.inside.problem.now.leads = subst (λ (h : HeadsParts). c.args.step < length h.problem.leads) (sym c.self.view_is) c.requires.step in
    omega (arith, steps, step)

pub clash-requires-clause-same_stage : goal.clash-requires-clause-same_stage
clash-requires-clause-same_stage c =
    let p = c.self.inside.problem.now in
    let items = c.deref-earlier-items.ensures.value in
    let low = subst (λ (xs : List Earlier). c.loop-earlier.earlier-index < length xs) items c.loop-earlier-test.true in
    let lead = known_at p _ _ c.self.inside.earlier.items c.loop-earlier.earlier-index c.earlier-item.result c.self.invariant.0 low
    (c.earlier-item.is ∙ ap (λ (xs : List Earlier). get_or xs c.loop-earlier.earlier-index c.earlier-item.result) items) in
    let row = inverse_row p (head_of p (take c.loop-earlier.earlier-index (steps_of c.self.inside.earlier.items))) c.earlier-item.result.inverse (head_row p _) lead.undoes in
    row.long ∙ ap (λ (h : HeadsParts). h.problem.stage) c.self.view_is ∙ sym c.requires.same_stage

pub returns-then-clash : goal.returns-then-clash
returns-then-clash c =
    let p = c.self.inside.problem.now in
    let leads = steps_of c.self.inside.earlier.items in
    let items = c.deref-earlier-items.ensures.value in
    let low = subst (λ (xs : List Earlier). c.loop-earlier.earlier-index < length xs) items c.loop-earlier-test.true in
    let lead = known_at p _ _ c.self.inside.earlier.items c.loop-earlier.earlier-index c.earlier-item.result c.self.invariant.0 low
    (c.earlier-item.is ∙ ap (λ (xs : List Earlier). get_or xs c.loop-earlier.earlier-index c.earlier-item.result) items) in
    let head = head_row p (take c.loop-earlier.earlier-index leads) in
    let from : length c.args.from.now ≡ p.stage = c.requires.same_stage ∙ ap (λ (h : HeadsParts). h.problem.stage) (sym c.self.view_is) in
    let shared = (c.clash.ensures p (head_of p (take c.loop-earlier.earlier-index leads)) c.self.invariant.0.table_is head.is head.long from lead.undoes).0 c.if-clash.true in
    let none : AreNew (rows_of p leads) (rows_from c.args.from.now (changes_of p c.args.step)) → ⊥ =
    shared_old p leads (rows_from c.args.from.now (changes_of p c.args.step)) c.loop-earlier.earlier-index c.earlier-item.result.step lead.inside lead.at shared in (
      λ h. absurd (false≢true h),
      λ new. absurd (none (subst (λ (h : HeadsParts). AreNew (rows_of h.problem h.leads) (rows_from c.args.from.now (changes_of h.problem c.args.step))) (sym c.self.view_is) new)),
    )

pub loop-earlier-preserved : goal.loop-earlier-preserved
loop-earlier-preserved c =
    let p = c.self.inside.problem.now in
    let leads = steps_of c.self.inside.earlier.items in
    let index = c.loop-earlier.earlier-index in
    let items = c.deref-earlier-items.ensures.value in
    let low = subst (λ (xs : List Earlier). index < length xs) items c.loop-earlier-test.true in
    let lead = known_at p _ _ c.self.inside.earlier.items index c.earlier-item.result c.self.invariant.0 low
    (c.earlier-item.is ∙ ap (λ (xs : List Earlier). get_or xs index c.earlier-item.result) items) in
    let head = head_row p (take index leads) in
    let from : length c.args.from.now ≡ p.stage = c.requires.same_stage ∙ ap (λ (h : HeadsParts). h.problem.stage) (sym c.self.view_is) in
    let told = c.clash.ensures p (head_of p (take index leads)) c.self.invariant.0.table_is head.is head.long from lead.undoes in
    let before : AreNew (rows_of p (take index leads)) (rows_from c.args.from.now (changes_of p c.args.step)) =
    subst (λ (h : HeadsParts). AreNew (rows_of h.problem (take index h.leads)) (rows_from c.args.from.now (changes_of h.problem c.args.step))) (sym c.self.view_is) c.loop-earlier.invariant in
    subst (λ (h : HeadsParts). AreNew (rows_of h.problem (take (index + 1) h.leads)) (rows_from c.args.from.now (changes_of h.problem c.args.step))) c.self.view_is
    (new_further p leads (rows_from c.args.from.now (changes_of p c.args.step)) index c.earlier-item.result.step lead.inside lead.at before
    (λ shared. false≢true (sym c.if-clash.false ∙ told.1 shared)))

pub returns : goal.returns
returns c =
    let leads = steps_of c.self.inside.earlier.items in
    let index = c.loop-earlier.earlier-index in
    let all : take index leads ≡ leads =
    take_all index leads (omega (arith, c.loop-earlier-test.false, ap (λ (xs : List Earlier). length xs) c.deref-earlier-items.ensures.value, length-map c.self.inside.earlier.items (λ (e : Earlier). e.step))) in
    let before = subst (λ (h : HeadsParts). AreNew (rows_of h.problem (take index h.leads)) (rows_from c.args.from.now (changes_of h.problem c.args.step))) (sym c.self.view_is) c.loop-earlier.invariant in (
      λ _. subst (λ (h : HeadsParts). AreNew (rows_of h.problem h.leads) (rows_from c.args.from.now (changes_of h.problem c.args.step))) c.self.view_is
          (subst (λ (ls : List ℕ). AreNew (rows_of c.self.inside.problem.now ls) (rows_from c.args.from.now (changes_of c.self.inside.problem.now c.args.step))) all before),
      λ _. refl,
    )
