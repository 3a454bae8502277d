use Rattle.std.proofs.Common.{ℕ, ◌≡◌, ◌+◌, ◌<◌, ◌∙◌, List, length, get_or, sym, ap, subst, arith}
use Rattle.cr_model.specs.Callings.{rows_of, head_of}
use Rattle.cr_model.specs.Decided.{rows_differ}
use Rattle.cr_model.specs.Nodes.{IsValid}
use Rattle.cr_model.specs.Sizes.{child}
use Rattle.cr_query.specs.Meters.{MeterParts}
use Rattle.cr_path.specs.Counted.{IsCounted, CanCount}
use Rattle.cr_path.specs.Ends.{IsEnd}
use Rattle.cr_path.specs.Numbers.{NumberParts, numbers_of, IsBase, IsNumbered}
use Rattle.cr_path.specs.Sets.{AreUncut}
use Rattle.cr_path.proofs.Uncut.{none_left}
use Rattle.cr_path.specs.Walks.{PathParts, IsWalk}
use Rattle.cr_path.proofs.Places.{some_head}
use Rattle.cr_path.proofs.Counts.{of_meter}
use Rattle.cr_path.proofs.Walking.{next_end, end_few, step_known, step_tabled, from_end, have_marks, few_unmarked, marked_on, walked}
use Rattle.cr_path.proofs.walks.path.Path.go.Goals as goal

pub place-place-requires-clause-base : goal.place-place-requires-clause-base
place-place-requires-clause-base g c =
    let w = c.self.inside in
    let at_end = c.last-end.ensures.is w.problem.now w.numbers w.steps w.next c.self.invariant.0.ends in
    some_head w.numbers (head_of w.problem.now w.steps) c.last-end.result.base at_end.from

pub place-place-requires-clause-step : goal.place-place-requires-clause-step
place-place-requires-clause-step g c =
    let w = c.self.inside in
    let valid = subst (λ (v : PathParts). IsValid v.problem (child v.node c.args.step)) (sym c.self.view_is) c.requires.valid in
    step_tabled w.problem.now w.leads.now w.numbers w.steps w.next w.ends w.marks.marks w.marks.unmarked w.counting.value w.turn_free c.self.invariant.0 c.args.step
    (step_known w.problem.now w.steps c.args.step valid)

pub add-requires-clause-within : goal.add-requires-clause-within
add-requires-clause-within g c =
    let w = c.self.inside in
    have_marks w.problem.now w.leads.now w.numbers w.steps w.next w.ends w.marks.marks w.marks.unmarked w.counting.value w.turn_free c.self.invariant.0 c.place-place.result c.numbers_at.result.now c.numbers_at.ensures

pub add-requires-clause-few : goal.add-requires-clause-few
add-requires-clause-few g c =
    let w = c.self.inside in
    few_unmarked w.problem.now w.leads.now w.numbers w.steps w.next w.ends w.marks.marks w.marks.unmarked w.counting.value w.turn_free c.self.invariant.0

pub add_lead-requires-clause-few : goal.add_lead-requires-clause-few
add_lead-requires-clause-few g c =
    let w = c.self.inside in
    let few = subst (λ (v : PathParts). length v.node < 1024) (sym c.self.view_is) c.requires.few in
    of_meter w.problem.now w.steps (λ (m : MeterParts). length m.node < 1024) c.deref_mut.result.now.meter (subst (IsCounted w.problem.now w.steps) (sym c.deref_mut.ensures.value) c.self.invariant.0.counted).meter few

pub add_lead-requires-clause-lead : goal.add_lead-requires-clause-lead
add_lead-requires-clause-lead g c =
    let w = c.self.inside in
    let is = c.self.invariant.0 in
    let valid = subst (λ (v : PathParts). IsValid v.problem (child v.node c.args.step)) (sym c.self.view_is) c.requires.valid in
    let at_end = c.last-end.ensures.is w.problem.now w.numbers w.steps w.next is.ends in
    of_meter w.problem.now w.steps (λ (m : MeterParts). CanCount c.table-table.result.now c.place-place.result c.args.step m.node m) c.deref_mut.result.now.meter (subst (IsCounted w.problem.now w.steps) (sym c.deref_mut.ensures.value) is.counted).meter
    (record {
      sound = is.sound;
      numbered = subst (IsNumbered w.problem.now) (sym c.table-table.ensures) is.numbered;
      known = step_known w.problem.now w.steps c.args.step valid;
      base = c.last-end.result.base;
      from = subst (λ (t : NumberParts). IsBase t (head_of w.problem.now w.steps) c.last-end.result.base) (sym c.table-table.ensures) at_end.from;
      is = c.place-place.ensures.is;
    })

pub overflow_add-end : goal.overflow_add-end
overflow_add-end g c =
    let w = c.self.inside in
    let p = w.problem.now in
    let t = w.numbers in
    let valid = subst (λ (v : PathParts). IsValid v.problem (child v.node c.args.step)) (sym c.self.view_is) c.requires.valid in
    let at_end = c.last-end.ensures.is p t w.steps w.next c.self.invariant.0.ends in
    let known = from_end p w.leads.now t w.steps w.next w.ends w.marks.marks w.marks.unmarked w.counting.value w.turn_free c.self.invariant.0 w.steps c.last-end.result c.args.step c.place-place.result c.lead_at-lead.result c.lead_at-lead.result
    at_end (step_known p w.steps c.args.step valid) c.place-place.ensures.is c.lead_at-lead.ensures in
    omega (arith, c.from.ensures, end_few p t w.steps c.args.step c.last-end.result c.lead_at-lead.result at_end known c.self.invariant.0.sound valid)

pub invariant_of-self : goal.invariant_of-self
invariant_of-self g c =
    let w = c.self.inside in
    let p = w.problem.now in
    let t = w.numbers in
    let is = c.self.invariant.0 in
    let end = c.last-end.result in
    let lead = c.lead_at-lead.result in
    let place : ℕ = c.place-place.result in
    let valid = subst (λ (v : PathParts). IsValid v.problem (child v.node c.args.step)) (sym c.self.view_is) c.requires.valid in
    let new = c.requires.new ∙ ap (λ (v : PathParts). rows_differ (rows_of v.problem (child v.node c.args.step))) (sym c.self.view_is) in
    let at_end = c.last-end.ensures.is p t w.steps w.next is.ends in
    let known = from_end p w.leads.now t w.steps w.next w.ends w.marks.marks w.marks.unmarked w.counting.value w.turn_free is w.steps end c.args.step place lead lead
    at_end (step_known p w.steps c.args.step valid) c.place-place.ensures.is c.lead_at-lead.ensures in
    let inside : end.base + c.args.step < length t.records = omega (arith, c.place-place.ensures.is, c.place-place.ensures.within) in
    let lead_is : lead ≡ get_or t.records (end.base + c.args.step) lead = c.lead_at-lead.ensures ∙ ap (λ (n : ℕ). get_or t.records n lead) c.place-place.ensures.is in
    let numbers_are = c.numbers_at.ensures ∙ ap (numbers_of t) c.place-place.ensures.is in
    let left = subst (λ (v : PathParts). AreUncut v.problem v.node (c.args.step + 1) c.args.left) (sym c.self.view_is) c.requires.left in
    let all : c.count-self-inside.result ≡ length p.leads = c.count-self-inside.ensures.of_problem p is.table in
    let after : AreUncut p (child w.steps c.args.step) c.count-self-inside.result c.no_steps.result = subst (λ n. AreUncut p (child w.steps c.args.step) n c.no_steps.result) (sym all) (none_left p (child w.steps c.args.step) c.no_steps.result c.no_steps.ensures) in (
      subst (λ (n : List ℕ). IsWalk p w.leads.now t n c.count-self-inside.result c.push.new.self c.add.new.self.marks c.add.new.self.unmarked c.add_lead.new.self w.turn_free) (sym c.push-2.ensures)
          (walked p w.leads.now t w.steps w.next w.ends w.marks.marks w.marks.unmarked w.counting.value w.turn_free is c.args.step c.count-self-inside.result c.push.new.self c.add.new.self.marks c.add.new.self.unmarked c.add_lead.new.self valid (omega (arith, all))
          (c.push.ensures p t w.steps w.next c.args.step c.count-self-inside.result (ap length c.steps.ensures.is) is.ends left
          (subst (λ (more : ℕ). IsEnd p t (child w.steps c.args.step) (record { base = lead.next; rung = end.rung + more; left = c.no_steps.result; round = c.from-2.result })) (sym c.from.ensures) (next_end p t w.steps c.args.step end lead c.no_steps.result c.from-2.result at_end known c.from-2.ensures inside lead_is)) after)
          (marked_on p w.leads.now t w.steps w.next w.ends w.marks.marks w.marks.unmarked w.counting.value w.turn_free is c.args.step (end.base + c.args.step) c.numbers_at.result.now c.args.is_new c.add.new.self (ap (λ b. b + c.args.step) at_end.by_records) numbers_are new
          c.add.ensures.long c.add.ensures.added c.add.ensures.same)
          (c.add_lead.ensures.counted p w.steps (subst (IsCounted p w.steps) (sym c.deref_mut.ensures.value) is.counted))),
      c.self.invariant.1,
      c.add_lead.ensures.idle,
      c.self.invariant.3,
    )
