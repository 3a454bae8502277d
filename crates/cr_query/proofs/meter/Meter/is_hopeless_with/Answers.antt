use Rattle.std.proofs.Common.{◌≡◌, ◌+◌, length, refl, ap, ap₂, ◌∙◌, arith}
use Rattle.cr_model.specs.Sizes.{child}
use Rattle.cr_query.specs.Gauges.{hopeless_with, room_left}
use Rattle.cr_query.specs.Meters.{MeterParts, change_between, marks_now, letters_now, length_now, changes_now, is_hopeless_by_leads}
use Rattle.cr_query.proofs.Metering.{kinds_counted, known_kinds, whole, hopeless_told}
use Rattle.cr_query.proofs.Sizes.{parts_some}
use Rattle.cr_query.proofs.meter.Meter.is_hopeless_with.Goals as goal

pub kind_at-kind-requires : goal.kind_at-kind-requires
kind_at-kind-requires c =
    let m = c.self.inside in
    let same : length m.problem.leads ≡ length c.args.self.now.problem.leads = ap (λ (meter : MeterParts). length meter.problem.leads) c.self.view_is in
    omega (arith, c.requires, same, kinds_counted m.problem c.deref.result.now (c.deref.ensures.value ∙ c.self.invariant.0.steps))

pub is_hopeless_with-requires-clause-steps : goal.is_hopeless_with-requires-clause-steps
is_hopeless_with-requires-clause-steps c =
    let m = c.self.inside in
    known_kinds m.problem c.deref-3.result.now m.leads.steps.items (c.deref-3.ensures.value ∙ c.self.invariant.0.steps) c.self.invariant.1.steps

pub returns : goal.returns
returns c =
    let m = c.self.inside in
    let kind = c.kind_at-kind.result in
    let kinds = c.self.invariant.0.steps in
    let left : c.room_at-left.result ≡ room_left m.numbers (length_now m.leads + kind.length) =
    c.room_at-left.ensures.is m.numbers (c.deref-2.ensures.value ∙ c.self.invariant.0.table) ∙ ap₂ (λ long n. room_left m.numbers (long + n)) c.length.ensures c.from.ensures in
    c.is_hopeless_with.ensures
    ∙ ap (λ ks. hopeless_with m.numbers (marks_now m.leads) (letters_now m.leads) kind (changes_now m.leads + change_between ks m.leads.steps.items kind.method) c.room_at-left.result) c.deref-3.ensures.value
    ∙ hopeless_told m.problem m.leads.steps.items m.kinds.items m.leads c.args.step kind (change_between m.kinds.items m.leads.steps.items kind.method) c.ringing_on.ensures.lengths kinds
    (c.kind_at-kind.ensures m.problem (c.deref.ensures.value ∙ kinds)) refl c.self.invariant.1.steps (whole m.problem m.leads.steps.items m.leads c.self.invariant.1) (parts_some m.problem c.self.invariant.0.sound) m.numbers c.self.invariant.0.found c.room_at-left.result left
    ∙ ap (λ (meter : MeterParts). is_hopeless_by_leads meter.problem (child meter.node c.args.step)) c.self.view_is
