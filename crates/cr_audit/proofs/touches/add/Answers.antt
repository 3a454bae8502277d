use Rattle.std.proofs.Common.{◌≡◌, ◌∙◌, ap, sym, subst, rules}
use Rattle.cr_model.specs.Callings.{HasSteps, length_of}
use Rattle.cr_audit.specs.declared.touches.Touch.{Touch}
use Rattle.cr_audit.specs.Touched.{IsMeasured, AreTouches}
use Rattle.cr_audit.proofs.Adding.{touch_order, all_inserted, inserted, tied}
use Rattle.cr_audit.proofs.touches.add.Goals as goal

pub returns-clause-touches : goal.returns-clause-touches
returns-clause-touches c =
    let p = c.args.problem.now in
    let touch : Touch = record { length = c.length_of-length.result; steps = c.in_ok-steps.steps } in
    let steps : c.in_ok-steps.steps.items ≡ c.args.touch.now = search rules in
    subst (AreTouches p) (sym c.in_ok-insert.ensures.keys)
    (all_inserted touch_order (IsMeasured p) c.args.touches.now.keys touch c.requires.touches
    (record { known = subst (HasSteps p) (sym steps) c.requires.steps; long = c.length_of-length.ensures ∙ ap (length_of p) (sym steps) }))

pub returns-clause-found : goal.returns-clause-found
returns-clause-found c = λ calling.
    let touch : Touch = record { length = c.length_of-length.result; steps = c.in_ok-steps.steps } in
    let steps : c.in_ok-steps.steps.items ≡ c.args.touch.now = search rules in
    let told = inserted touch_order (λ t. t.steps.items) tied c.args.touches.now.keys touch calling in
    rw (sym c.in_ok-insert.ensures.keys, steps) at told
