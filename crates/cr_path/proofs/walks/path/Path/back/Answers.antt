use Rattle.std.proofs.Common.{◌≡◌, ℕ, ◌-◌, ◌+◌, ◌<◌, List, length, get_or, sym, ap, ◌∙◌, subst, arith}
use Rattle.cr_query.specs.Meters.{MeterParts}
use Rattle.cr_model.specs.Callings.{head_of}
use Rattle.cr_path.specs.Numbers.{numbers_of}
use Rattle.cr_path.specs.Counted.{IsCounted}
use Rattle.cr_path.specs.Ends.{final_step, ends_of, HasEnds}
use Rattle.cr_path.specs.Walks.{PathParts, IsWalk, parent}
use Rattle.cr_path.proofs.Children.{valid_first, last_step}
use Rattle.cr_path.proofs.Enough.{told_after}
use Rattle.cr_path.proofs.Places.{some_head}
use Rattle.cr_path.proofs.Counts.{of_meter}
use Rattle.cr_path.proofs.Walking.{step_tabled, last_known, have_marks, marked_back, returned}
use Rattle.cr_path.proofs.walks.path.Path.back.Goals as goal

pub place-place-requires-clause-base : goal.place-place-requires-clause-base
place-place-requires-clause-base g c =
    let w = c.self.inside in
    let p = w.problem.now in
    let t = w.numbers in
    let is = c.self.invariant.0 in
    let some : 0 < length w.steps = subst (λ (v : PathParts). 0 < length v.node) (sym c.self.view_is) c.requires in
    let many : length c.steps-number.result.now - 1 + 1 ≡ length w.steps = omega (arith, some, ap length c.steps-number.ensures.is) in
    let at_end = c.last-base.ensures.is p t (parent w.steps) (final_step w.steps + 1) (c.pop.ensures p t w.steps w.next many is.ends) in
    some_head t (head_of p (parent w.steps)) c.last-base.result.base at_end.from

pub place-place-requires-clause-step : goal.place-place-requires-clause-step
place-place-requires-clause-step g c =
    let w = c.self.inside in
    let p = w.problem.now in
    let t = w.numbers in
    let is = c.self.invariant.0 in
    let some : 0 < length w.steps = subst (λ (v : PathParts). 0 < length v.node) (sym c.self.view_is) c.requires in
    let many : length c.steps-number.result.now - 1 + 1 ≡ length w.steps = omega (arith, some, ap length c.steps-number.ensures.is) in
    let index : ℕ = length c.steps-number.result.now - 1 in
    let step : ℕ = get_or c.steps.result.now index 0 in
    let last : index ≡ length w.steps - 1 = ap (λ (word : List ℕ). length word - 1) c.steps-number.ensures.is in
    let step_is : step ≡ get_or w.steps index 0 = ap (λ (word : List ℕ). get_or word index 0) c.steps.ensures.is in
    step_tabled p w.leads.now t w.steps w.next w.ends w.marks.marks w.marks.unmarked w.counting.value w.turn_free is step
    (last_known p w.leads.now t w.steps w.next w.ends w.marks.marks w.marks.unmarked w.counting.value w.turn_free is step index some last step_is)

pub take_back-requires : goal.take_back-requires
take_back-requires g c =
    let w = c.self.inside in
    have_marks w.problem.now w.leads.now w.numbers w.steps w.next w.ends w.marks.marks w.marks.unmarked w.counting.value w.turn_free c.self.invariant.0 c.place-place.result c.numbers_at.result.now c.numbers_at.ensures

pub take_back-requires-2-clause-some : goal.take_back-requires-2-clause-some
take_back-requires-2-clause-some g c =
    let w = c.self.inside in
    let p = w.problem.now in
    let some : 0 < length w.steps = subst (λ (v : PathParts). 0 < length v.node) (sym c.self.view_is) c.requires in
    of_meter p w.steps (λ (m : MeterParts). 0 < length m.node) c.deref_mut.result.now.meter (subst (IsCounted p w.steps) (sym c.deref_mut.ensures.value) c.self.invariant.0.counted).meter some

pub invariant_of-self : goal.invariant_of-self
invariant_of-self g c =
    let w = c.self.inside in
    let p = w.problem.now in
    let t = w.numbers in
    let is = c.self.invariant.0 in
    let some : 0 < length w.steps = subst (λ (v : PathParts). 0 < length v.node) (sym c.self.view_is) c.requires in
    let many : length c.steps-number.result.now - 1 + 1 ≡ length w.steps = omega (arith, some, ap length c.steps-number.ensures.is) in
    let at_end = c.last-base.ensures.is p t (parent w.steps) (final_step w.steps + 1) (c.pop.ensures p t w.steps w.next many is.ends) in
    let index : ℕ = length c.steps-number.result.now - 1 in
    let step : ℕ = get_or c.steps.result.now index 0 in
    let last : index ≡ length w.steps - 1 = ap (λ (word : List ℕ). length word - 1) c.steps-number.ensures.is in
    let step_is : step ≡ get_or w.steps index 0 = ap (λ (word : List ℕ). get_or word index 0) c.steps.ensures.is in
    let whole = last_step w.steps step index some last step_is in
    let inside = last_known p w.leads.now t w.steps w.next w.ends w.marks.marks w.marks.unmarked w.counting.value w.turn_free is step index some last step_is in
    let told = told_after p t is.numbered (parent w.steps) (final_step w.steps + 1) (ends_of (parent w.steps) c.pop.new.self) (c.pop.ensures p t w.steps w.next many is.ends) (valid_first p w.steps (length w.steps - 1) is.valid)
    c.last-base.result step at_end inside in
    let marked = marked_back p w.leads.now t w.steps w.next w.ends w.marks.marks w.marks.unmarked w.counting.value w.turn_free is (parent w.steps) step (c.last-base.result.base + step) c.numbers_at.result.now c.take_back.new.self whole
    (ap (λ b. b + step) at_end.by_records) told (c.numbers_at.ensures ∙ ap (numbers_of t) c.place-place.ensures.is) c.take_back.ensures.long c.take_back.ensures.taken c.take_back.ensures.same in
    let at_last : step ≡ final_step w.steps = step_is ∙ ap (λ n. get_or w.steps n 0) last in (
      subst (λ (n : List ℕ). IsWalk p w.leads.now t n (step + 1) c.pop.new.self c.take_back.new.self.marks c.take_back.new.self.unmarked c.take_back-2.new.self w.turn_free) (sym c.pop-2.ensures)
          (returned p w.leads.now t w.steps w.next w.ends w.marks.marks w.marks.unmarked w.counting.value w.turn_free is (step + 1) c.pop.new.self c.take_back.new.self.marks c.take_back.new.self.unmarked c.take_back-2.new.self (omega (arith, inside))
          (subst (λ n. HasEnds p t (parent w.steps) (n + 1) c.pop.new.self) (sym at_last) (c.pop.ensures p t w.steps w.next many is.ends)) marked
          (c.take_back-2.ensures.counted p w.steps (subst (IsCounted p w.steps) (sym c.deref_mut.ensures.value) is.counted))),
      c.self.invariant.1,
      c.take_back-2.ensures.idle,
      c.self.invariant.3,
    )
