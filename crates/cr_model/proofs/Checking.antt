-- What the answers of tests say, and steps in order.
use Rattle.std.proofs.Common.{◌≡◌, ℕ, zero, suc, ◌+◌, ◌-◌, ◌<◌, ◌≤◌, ◌↔◌, Bool, false, List, length, refl, sym, ◌∙◌, ap, arith, inl, inr}
use Rattle.std.specs.Bool.{IsTrue}
use Rattle.std.proofs.lemmas.Bool.{false≢true, cases_lt}
use Rattle.cr_model.specs.declared.lead.Step.{Step}
use Rattle.cr_model.specs.Problems.{LeadParts}
use Rattle.cr_model.specs.Callings.{step_at}
use Rattle.cr_model.specs.Right.{LeadIsRight, IsNextStep}

-- a test that fails
pub refuted : (b : Bool) (P : Type 0) → IsTrue b ↔ P → b ≡ false → P → ⊥
refuted b P tells fails holds = false≢true (sym fails ∙ tells.1 holds)

-- a step that follows is of the same method or the next
next_method : (before step : Step) → IsNextStep before step → (before.method ≤ step.method) × (step.method ≤ before.method + 1)
next_method before step (inl same) = (omega (arith, same.0), omega (arith, same.0))
next_method before step (inr next) = (omega (arith, next.0), omega (arith, next.0))

module _ (stage methods : ℕ) (leads : List LeadParts) (right : (i : ℕ) → i < length leads → LeadIsRight stage methods leads i) where
  step_on : (i : ℕ) → i + 1 < length leads → ((step_at leads i).method ≤ (step_at leads (i + 1)).method) × ((step_at leads (i + 1)).method ≤ (step_at leads i).method + 1)
  step_on i within =
      let before : i + 1 - 1 ≡ i = omega arith in
      let is = next_method _ _ ((right (i + 1) within).next.later (omega arith)) in
      let at : (step_at leads (i + 1 - 1)).method ≡ (step_at leads i).method = ap (λ k. (step_at leads k).method) before in
      (omega (arith, is.0), omega (arith, is.1))

  -- each method up to that of a lead has one
  pub led_so_far : (i method : ℕ) → i < length leads → method ≤ (step_at leads i).method → (k : ℕ) × (k < length leads) × ((step_at leads k).method ≡ method)
  led_so_far zero method within low = let first = (right 0 within).next.first refl in (0, within, omega (arith, first.0))
  led_so_far (suc i) method within low = elim (cases_lt method (step_at leads (suc i)).method) [
    | inl less ↦
        let on : (step_at leads (i + 1)).method ≡ (step_at leads (suc i)).method = ap (λ k. (step_at leads k).method) (omega arith) in
        led_so_far i method (omega arith) (omega (arith, (step_on i (omega arith)).1))
    | inr more ↦ (suc i, within, omega arith)
  ]

  -- later leads are of no earlier method
  pub methods_rise : (i k : ℕ) → i + k < length leads → (step_at leads i).method ≤ (step_at leads (i + k)).method
  methods_rise i zero within = let same : (step_at leads (i + 0)).method ≡ (step_at leads i).method = ap (λ k. (step_at leads k).method) (omega arith) in omega arith
  methods_rise i (suc k) within =
      let on : (step_at leads (i + k + 1)).method ≡ (step_at leads (i + suc k)).method = ap (λ j. (step_at leads j).method) (omega arith) in
      let so_far = methods_rise i k (omega arith) in
      omega (arith, (step_on (i + k) (omega arith)).0)

  pub below_last : (i : ℕ) → i < length leads → (step_at leads i).method ≤ (step_at leads (length leads - 1)).method
  below_last i within =
      let rise = methods_rise i (length leads - 1 - i) (omega arith) in
      let same : (step_at leads (i + (length leads - 1 - i))).method ≡ (step_at leads (length leads - 1)).method = ap (λ k. (step_at leads k).method) (omega arith) in
      omega arith
