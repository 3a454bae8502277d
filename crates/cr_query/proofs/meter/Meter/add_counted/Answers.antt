use Rattle.std.proofs.Common.{◌≡◌, length, sym, ap, ap₂, ◌∙◌, subst, arith}
use Rattle.cr_model.specs.Sizes.{child}
use Rattle.cr_query.specs.Meters.{MeterParts, rows_fitting_after, HaveFittings}
use Rattle.cr_query.specs.Tallies.{all_on}
use Rattle.cr_query.proofs.Metering.{kinds_counted, known_kinds, fittings_more, fittings_counted, told_counted, kept, written}
use Rattle.cr_query.proofs.meter.Meter.add_counted.Goals as goal

pub add-requires-clause-step : goal.add-requires-clause-step
add-requires-clause-step c =
    let m = c.self.inside in
    let same : length m.problem.leads ≡ length c.args.self.now.problem.leads = ap (λ (meter : MeterParts). length meter.problem.leads) c.self.view_is in
    omega (arith, c.requires.step, same, kinds_counted m.problem c.deref.result.now (c.deref.ensures.value ∙ c.self.invariant.0.steps))

pub add-requires-clause-steps : goal.add-requires-clause-steps
add-requires-clause-steps c =
    let m = c.self.inside in
    known_kinds m.problem c.deref.result.now m.leads.steps.items (c.deref.ensures.value ∙ c.self.invariant.0.steps) c.self.invariant.1.steps

pub raise_counted-requires-clause-all : goal.raise_counted-requires-clause-all
raise_counted-requires-clause-all c =
    let m = c.self.inside in
    let p = m.problem in
    let node = m.leads.steps.items in
    let known : c.args.fitting.now ≡ rows_fitting_after p node c.args.step = c.requires.fitting ∙ ap (λ (meter : MeterParts). rows_fitting_after meter.problem meter.node c.args.step) (sym c.self.view_is) in
    told_counted p node c.args.step c.args.fitting.now known ∙ sym (fittings_counted p node m.patterns.items c.self.invariant.2) ∙ ap length (sym c.deref_mut.ensures.value)

pub invariant_of-self : goal.invariant_of-self
invariant_of-self c =
    let m = c.self.inside in
    let p = m.problem in
    let node = m.leads.steps.items in
    let counted = c.add.ensures.is p node (c.deref.ensures.value ∙ c.self.invariant.0.steps) c.self.invariant.1 in
    let known : c.args.fitting.now ≡ rows_fitting_after p node c.args.step = c.requires.fitting ∙ ap (λ (meter : MeterParts). rows_fitting_after meter.problem meter.node c.args.step) (sym c.self.view_is) in
    let patterns : c.raise_counted.new.fittings ≡ all_on (length node) m.patterns.items c.args.fitting.now =
    c.raise_counted.ensures ∙ ap₂ (λ n ps. all_on n ps c.args.fitting.now) c.front-front.ensures c.deref_mut.ensures.value in
    let fitting : HaveFittings p (child node c.args.step) c.raise_counted.new.fittings =
    subst (HaveFittings p (child node c.args.step)) (sym patterns) (fittings_more c.joined_callings_multiply.ensures.rows p node c.args.step m.patterns.items c.self.invariant.2 c.args.fitting.now known) in
    let same : length c.raise_counted.new.fittings ≡ length m.patterns.items =
    fittings_counted p (child node c.args.step) c.raise_counted.new.fittings fitting ∙ sym (fittings_counted p node m.patterns.items c.self.invariant.2) in
    let all = kept p (child node c.args.step) c.add.new.self _ c.self.invariant.0.sound counted
    (subst (HaveFittings p (child node c.args.step)) (sym (written m.patterns.len m.patterns.items c.raise_counted.new.fittings m.patterns.ok.0 same)) fitting) in
    (c.self.invariant.0, all.0, all.1, c.self.invariant.3, all.2, all.3, omega (arith, c.add.ensures.room, c.self.invariant.6), c.self.invariant.7)
