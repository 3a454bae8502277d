use Rattle.std.proofs.Common.{◌≡◌, length, map, All, sym, ap, ap₂, ◌∙◌, subst, arith}
use Rattle.cr_leads.specs.Tables.{lead_table, leads_counted}
use Rattle.cr_model.specs.Callings.{head_of}
use Rattle.cr_model.specs.Sizes.{child}
use Rattle.cr_query.specs.Meters.{MeterParts, HaveFittings}
use Rattle.cr_query.specs.Tallies.{lead_on}
use Rattle.cr_query.proofs.Metering.{kinds_counted, known_kinds, head_long, shapes_staged, lead_staged, fittings_raised, fittings_counted, kept, written}
use Rattle.cr_query.proofs.meter.Meter.add_lead.Goals as goal

pub add-requires-clause-step : goal.add-requires-clause-step
add-requires-clause-step c =
    let m = c.self.inside in
    let same : length m.problem.leads ≡ length c.args.self.now.problem.leads = ap (λ (meter : MeterParts). length meter.problem.leads) c.self.view_is in
    omega (arith, c.requires.step, same, kinds_counted m.problem c.deref.result.now (c.deref.ensures.value ∙ c.self.invariant.0.steps))

pub add-requires-clause-steps : goal.add-requires-clause-steps
add-requires-clause-steps c =
    let m = c.self.inside in
    known_kinds m.problem c.deref.result.now m.leads.steps.items (c.deref.ensures.value ∙ c.self.invariant.0.steps) c.self.invariant.1.steps

pub rows_of-requires : goal.rows_of-requires
rows_of-requires c =
    let m = c.self.inside in
    let table : c.args.leads.now ≡ lead_table m.problem = c.requires.table ∙ ap (λ (meter : MeterParts). lead_table meter.problem) (sym c.self.view_is) in
    let same : length m.problem.leads ≡ length c.args.self.now.problem.leads = ap (λ (meter : MeterParts). length meter.problem.leads) c.self.view_is in
    omega (arith, c.requires.step, same, leads_counted c.args.leads.now m.problem table)

pub raise_rows-requires-clause-shapes : goal.raise_rows-requires-clause-shapes
raise_rows-requires-clause-shapes c =
    let m = c.self.inside in
    let from : c.args.from.now ≡ head_of m.problem m.leads.steps.items = c.requires.from ∙ ap (λ (meter : MeterParts). head_of meter.problem meter.node) (sym c.self.view_is) in
    let long : length c.args.from.now ≡ m.problem.stage = ap length from ∙ head_long c.joined_callings_multiply.ensures.head m.problem m.leads.steps.items in
    shapes_staged m.problem m.leads.steps.items c.args.from.now c.deref_mut.result.now (subst (HaveFittings m.problem m.leads.steps.items) (sym c.deref_mut.ensures.value) c.self.invariant.2) long

pub raise_rows-requires-clause-lead : goal.raise_rows-requires-clause-lead
raise_rows-requires-clause-lead c =
    let m = c.self.inside in
    let table : c.args.leads.now ≡ lead_table m.problem = c.requires.table ∙ ap (λ (meter : MeterParts). lead_table meter.problem) (sym c.self.view_is) in
    let from : c.args.from.now ≡ head_of m.problem m.leads.steps.items = c.requires.from ∙ ap (λ (meter : MeterParts). head_of meter.problem meter.node) (sym c.self.view_is) in
    let long : length c.args.from.now ≡ m.problem.stage = ap length from ∙ head_long c.joined_callings_multiply.ensures.head m.problem m.leads.steps.items in
    lead_staged m.problem c.args.from.now c.args.leads.now c.rows_of.result.now table c.rows_of.ensures.lead long

pub invariant_of-self : goal.invariant_of-self
invariant_of-self c =
    let m = c.self.inside in
    let p = m.problem in
    let node = m.leads.steps.items in
    let counted = c.add.ensures.is p node (c.deref.ensures.value ∙ c.self.invariant.0.steps) c.self.invariant.1 in
    let table : c.args.leads.now ≡ lead_table p = c.requires.table ∙ ap (λ (meter : MeterParts). lead_table meter.problem) (sym c.self.view_is) in
    let from : c.args.from.now ≡ head_of p node = c.requires.from ∙ ap (λ (meter : MeterParts). head_of meter.problem meter.node) (sym c.self.view_is) in
    let long : length c.args.from.now ≡ p.stage = ap length from ∙ head_long c.joined_callings_multiply.ensures.head p node in
    let lead = c.rows_of.result.now in
    let staged = subst (λ n. All (λ row. length row ≡ n) lead) long (lead_staged p c.args.from.now c.args.leads.now lead table c.rows_of.ensures.lead long) in
    let patterns : c.raise_rows.new.fittings ≡ map (lead_on (length node) c.args.from.now lead) m.patterns.items =
    c.raise_rows.ensures ∙ ap₂ (λ n ps. map (lead_on n c.args.from.now lead) ps) c.front-front.ensures c.deref_mut.ensures.value in
    let fitting : HaveFittings p (child node c.args.step) c.raise_rows.new.fittings =
    subst (HaveFittings p (child node c.args.step)) (sym patterns)
    (fittings_raised c.joined_callings_multiply.ensures.rows p node c.args.step m.patterns.items c.self.invariant.2 c.self.invariant.0.sound c.args.from.now lead from (c.rows_of.ensures.of_problem p table) staged) in
    let same : length c.raise_rows.new.fittings ≡ length m.patterns.items =
    fittings_counted p (child node c.args.step) c.raise_rows.new.fittings fitting ∙ sym (fittings_counted p node m.patterns.items c.self.invariant.2) in
    let all = kept p (child node c.args.step) c.add.new.self _ c.self.invariant.0.sound counted
    (subst (HaveFittings p (child node c.args.step)) (sym (written m.patterns.len m.patterns.items c.raise_rows.new.fittings m.patterns.ok.0 same)) fitting) in
    (c.self.invariant.0, all.0, all.1, c.self.invariant.3, all.2, all.3, omega (arith, c.add.ensures.room, c.self.invariant.6), c.self.invariant.7)
