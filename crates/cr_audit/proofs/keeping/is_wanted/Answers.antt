use Rattle.std.proofs.Common.{◌≡◌, ℕ, List, length, take, sym, ap, ap₂, ◌∙◌, subst, arith, rules}
use Rattle.cr_model.specs.Callings.{HasSteps, AllDiffer, rows_of}
use Rattle.cr_model.proofs.Below.{some_parts}
use Rattle.cr_audit.specs.Keeping.{AreRowsAsked}
use Rattle.cr_audit.proofs.Kept.{wanted_from, touch_begins}
use Rattle.cr_audit.proofs.Short.{touch_has_steps}
use Rattle.cr_audit.proofs.keeping.is_wanted.Goals as goal

pub ring_rest-requires-clause-known : goal.ring_rest-requires-clause-known
ring_rest-requires-clause-known c =
    let p = c.args.problem.now in
    subst (HasSteps p) (sym (c.steps.ensures.is ∙ c.requires.touch)) (touch_has_steps p c.args.path.now.node.items c.requires.open.known)

pub ring_rest-requires-clause-from : goal.ring_rest-requires-clause-from
ring_rest-requires-clause-from c =
    let p = c.args.problem.now in
    let node = c.args.path.now.node.items in
    let long : c.len.result ≡ length node = search rules in
    omega (arith, long, ap length (c.steps.ensures.is ∙ c.requires.touch), (touch_begins p node (some_parts p c.stage.ensures.sound)).1)

pub ring_rest-requires-clause-rows : goal.ring_rest-requires-clause-rows
ring_rest-requires-clause-rows c =
    let p = c.args.problem.now in
    let node = c.args.path.now.node.items in
    let long : c.len.result ≡ length node = search rules in
    let same : c.in_ok-rows.rows.items ≡ c.args.path.now.rows.items = search rules in
    same ∙ c.requires.open.rows
    ∙ ap (rows_of p) (sym (ap₂ (λ (n : ℕ) (l : List ℕ). take n l) long (c.steps.ensures.is ∙ c.requires.touch) ∙ (touch_begins p node (some_parts p c.stage.ensures.sound)).0))

pub returns : goal.returns
returns c =
    let p = c.args.problem.now in
    let node = c.args.path.now.node.items in
    let touch = c.args.touch.now in
    let all = c.in_ok-ring_rest.ensures ∙ ap (rows_of p) c.steps.ensures.is in
    let rows : c.deref-2.result.now ≡ rows_of p touch = c.deref-2.ensures.value ∙ all in
    let differ : AllDiffer c.deref-2.result.now = subst AllDiffer (c.deref.ensures.value ∙ sym c.deref-2.ensures.value) (c.differ.ensures.0 c.if-not-differ.false) in
    let steps : HasSteps p touch = subst (HasSteps p) (sym c.requires.touch) (touch_has_steps p node c.requires.open.known) in
    let asked = c.has_leads_asked.ensures.0 c.if-not-has_leads_asked.false in (
      λ yes'. wanted_from p c.stage.ensures.sound node touch c.requires.touch steps c.requires.round asked c.deref-2.result.now rows differ (c.are_rows_asked.ensures.0 yes'),
      λ wanted. c.are_rows_asked.ensures.1 (subst (AreRowsAsked p) (sym rows) wanted.meets.patterns),
    )
