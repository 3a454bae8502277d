use Rattle.std.proofs.Common.{◌≡◌, ◌+◌, ◌<◌, ◌≤◌, length, refl, sym, ap, ap₂, ◌∙◌, subst, arith}
use Rattle.std.proofs.lemmas.List.{length-map}
use Rattle.cr_model.specs.Sizes.{child}
use Rattle.cr_model.specs.Sound.{sound_steps}
use Rattle.cr_query.specs.Gauges.{room_left}
use Rattle.cr_query.specs.Hits.{mark_steps, letter_steps, AreAlike}
use Rattle.cr_query.specs.Kinds.{kind_of}
use Rattle.cr_query.specs.Meters.{MeterParts, marked, lettered, change_between, marks_now, letters_now, length_now, changes_now, is_hopeless_by_leads}
use Rattle.cr_query.specs.Tallies.{at_front}
use Rattle.cr_query.proofs.Asked.{as_many_sets, of_marks, of_letters, without_com}
use Rattle.cr_query.proofs.Metering.{whole, hopeless_told}
use Rattle.cr_query.proofs.Sizes.{parts_some}
use Rattle.cr_query.proofs.meter.Meter.hopeless_alike.Goals as goal

pub out_steps-requires-clause-marks : goal.out_steps-requires-clause-marks
out_steps-requires-clause-marks c =
    let m = c.self.inside in
    let node = m.leads.steps.items in
    as_many_sets (marked m.problem node) (mark_steps m.problem) m.problem.query.counts (marks_now m.leads) m.hits.marks.items (whole m.problem node m.leads c.self.invariant.1).by_mark c.self.invariant.7.by_mark
    ∙ length-map m.leads.marks.items (at_front (length node))

pub out_steps-requires-clause-letters : goal.out_steps-requires-clause-letters
out_steps-requires-clause-letters c =
    let m = c.self.inside in
    let node = m.leads.steps.items in
    as_many_sets (lettered m.problem node) (letter_steps m.problem) m.problem.query.method_counts (letters_now m.leads) m.hits.letters.items (whole m.problem node m.leads c.self.invariant.1).by_letter c.self.invariant.7.by_letter
    ∙ length-map m.leads.letters.items (at_front (length node))

pub returns-clause-each : goal.returns-clause-each
returns-clause-each c step known =
    let m = c.self.inside in
    let p = m.problem in
    let node = m.leads.steps.items in
    let kind = kind_of p step in
    let inside : step < length p.leads = subst (λ (meter : MeterParts). step < length meter.problem.leads) (sym c.self.view_is) known in
    let alike : AreAlike p c.args.long = subst (λ (meter : MeterParts). AreAlike meter.problem c.args.long) (sym c.self.view_is) c.requires in
    let few : length p.leads ≤ 32 = omega (arith, sound_steps p c.self.invariant.0.sound) in
    let low : step < 32 = omega (arith, inside, few) in
    let counted = whole p node m.leads c.self.invariant.1 in
    let left : c.room_at-left.result ≡ room_left m.numbers (length_now m.leads + kind.length) =
    c.room_at-left.ensures.is m.numbers (c.deref.ensures.value ∙ c.self.invariant.0.table) ∙ ap₂ (λ long n. room_left m.numbers (long + n)) c.length.ensures (c.from.ensures ∙ sym (alike.long step inside)) in
    let changes = changes_now m.leads + change_between m.kinds.items node kind.method in
    let below : step < c.step_count.result = omega (arith, inside, c.step_count.ensures.is) in
    c.first_steps.ensures.each step below
    ∙ c.out_steps.ensures step kind.mark kind.letter low
    (of_marks p node step inside few (marks_now m.leads) m.hits.marks.items counted.by_mark c.self.invariant.7.by_mark)
    (of_letters p node step inside few (letters_now m.leads) m.hits.letters.items counted.by_letter c.self.invariant.7.by_letter)
    ∙ without_com m.numbers (marks_now m.leads) (letters_now m.leads) kind changes c.room_at-left.result (c.self.invariant.0.found.com ∙ alike.com)
    ∙ hopeless_told p node m.kinds.items m.leads step kind (change_between m.kinds.items node kind.method) c.ringing_on.ensures.lengths c.self.invariant.0.steps
    refl refl c.self.invariant.1.steps counted (parts_some p c.self.invariant.0.sound) m.numbers c.self.invariant.0.found c.room_at-left.result left
    ∙ ap (λ (meter : MeterParts). is_hopeless_by_leads meter.problem (child meter.node step)) c.self.view_is

pub returns-clause-others : goal.returns-clause-others
returns-clause-others c step beyond =
    let same : length c.self.inside.problem.leads ≡ length c.args.self.now.problem.leads = ap (λ (meter : MeterParts). length meter.problem.leads) c.self.view_is in
    c.first_steps.ensures.others step (omega (arith, beyond, same, c.step_count.ensures.is))
