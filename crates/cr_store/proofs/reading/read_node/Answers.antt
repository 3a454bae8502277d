-- The node before has not so many steps; another number of steps is left out; they are its steps; they are too many.
use Rattle.std.proofs.Common.{◌<◌, ◌++◌, length, take, vec_len, inl, inr, refl, sym, ap, ◌∙◌, subst, arith}
use Rattle.std.proofs.lemmas.Bool.{false≢true, cases_lt}
use Rattle.cr_model.specs.Limits.{most_leads}
use Rattle.cr_store.specs.Lines.{left_out, IsNodeOf}
use Rattle.cr_store.specs.ShapeReads.{node_parts}
use Rattle.cr_store.specs.Reading.{TellsSteps, TellsJoined}
use Rattle.cr_store.proofs.StepTexts.{too_many_left_out, others_left_out, too_many_steps, made_node}
use Rattle.cr_store.proofs.reading.read_node.Goals as goal

pub returns-in_default-2 : goal.returns-in_default-2
returns-in_default-2 c = λ node is.
    let line = c.args.line.now in
    let many = subst (TellsJoined c.args.before.now line.shared c.deref.result.now) c.in_default-2.is c.in_ok-steps.ensures in
    too_many_left_out c.args.problem.now c.args.version c.args.before.now (node_parts line) many node is

pub returns-then-not-is_left_out : goal.returns-then-not-is_left_out
returns-then-not-is_left_out c = λ node is.
    let p = c.args.problem.now in
    let line = c.args.line.now in
    let told = subst (TellsSteps p line.steps.now) c.in-Some.is c.in_ok-rest.ensures in
    let joined = subst (TellsJoined c.args.before.now line.shared c.deref.result.now) c.in-Some-2.is c.in_ok-steps.ensures in
    let steps = joined.1 ∙ ap (λ r. take line.shared c.args.before.now ++ r) c.deref.ensures.value in
    others_left_out p c.query.ensures.sound (c.callings_differ_in_their_texts.ensures p c.query.ensures.sound) c.args.version c.args.before.now (node_parts line)
    c.in-Some.rest.items c.in-Some-2.steps.items told steps
    (λ same. false≢true (c.if-not-is_left_out.ensures.1 (same ∙ ap (left_out c.args.version c.args.before.now) (sym c.deref-2.ensures.value)))) node is

pub returns-in-Ok : goal.returns-in-Ok
returns-in-Ok c =
    let p = c.args.problem.now in
    let line = c.args.line.now in
    let told = subst (TellsSteps p line.steps.now) c.in-Some.is c.in_ok-rest.ensures in
    let joined = subst (TellsJoined c.args.before.now line.shared c.deref.result.now) c.in-Some-2.is c.in_ok-steps.ensures in
    let steps = joined.1 ∙ ap (λ r. take line.shared c.args.before.now ++ r) c.deref.ensures.value in
    let made = made_node p c.query.ensures.sound (c.callings_differ_in_their_texts.ensures p c.query.ensures.sound) c.args.version c.args.before.now (node_parts line)
    c.in-Some.rest.items c.in-Some-2.steps.items told steps c.requires joined.0
    (omega (arith, c.in-Some-2.steps.ok.0, c.in-Ok.ensures.accepts.0 refl))
    (c.if-not-is_left_out.ensures.0 refl ∙ ap (left_out c.args.version c.args.before.now) c.deref-2.ensures.value) in
    subst (IsNodeOf p c.args.version c.args.before.now (node_parts line)) (sym c.in-Ok.ensures.is) made

pub returns : goal.returns
returns c = λ node is.
    let p = c.args.problem.now in
    let line = c.args.line.now in
    let told = subst (TellsSteps p line.steps.now) c.in-Some.is c.in_ok-rest.ensures in
    let joined = subst (TellsJoined c.args.before.now line.shared c.deref.result.now) c.in-Some-2.is c.in_ok-steps.ensures in
    let steps = joined.1 ∙ ap (λ r. take line.shared c.args.before.now ++ r) c.deref.ensures.value in
    let many : most_leads < length c.in-Some-2.steps.items = elim (cases_lt most_leads (vec_len c.in-Some-2.steps)) [
      | inl many ↦ omega (arith, c.in-Some-2.steps.ok.0, many)
      | inr few ↦ absurd (false≢true (c.in-Err.ensures.accepts.1 few))
    ] in
    too_many_steps p c.query.ensures.sound (c.callings_differ_in_their_texts.ensures p c.query.ensures.sound) c.args.version c.args.before.now (node_parts line)
    c.in-Some.rest.items c.in-Some-2.steps.items told steps many node is
