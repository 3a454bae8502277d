-- The steps of a problem differ in method or mark, and its methods in their letters.
use Rattle.std.proofs.Common.{◌≡◌, ◌≢◌, ℕ, zero, suc, ◌+◌, ◌-◌, ◌<◌, ◌⊎◌, length, get_or, inl, inr, sym, ◌∙◌, subst, arith}
use Rattle.std.proofs.lemmas.Bool.{cases_lt}
use Rattle.cr_model.specs.declared.lead.Step.{Step}
use Rattle.cr_model.specs.Problems.{ProblemParts}
use Rattle.cr_model.specs.Callings.{step_of, method_of, mark_of}
use Rattle.cr_model.specs.Right.{plain, IsNextStep, LeadIsRight}
use Rattle.cr_model.specs.Sound.{IsSound, sound_letters, sound_leads}

-- a step before another: of an earlier method, or of the same method, with a call after it that comes later
abbrev pub IsBefore : Step → Step → Type 0
IsBefore step later =
    (step.method < later.method) ⊎ ((step.method ≡ later.method) × ((later.mark ≢ plain) × ((step.mark ≡ plain) ⊎ (step.mark < later.mark))))

next_is_after : (step later : Step) → IsNextStep step later → IsBefore step later
next_is_after step later h = elim h [
  | inl same ↦ inr (sym same.0, same.1)
  | inr next ↦ inl (let e : later.method ≡ step.method + 1 = next.0 in omega arith)
]

onward : (a b c : Step) → IsBefore a b → IsBefore b c → IsBefore a c
onward a b c one two = elim one [
  | inl less ↦ elim two [
    | inl more ↦ inl (omega arith)
    | inr same ↦ inl (let e : b.method ≡ c.method = same.0 in omega arith)
  ]
  | inr same ↦ elim two [
    | inl more ↦ inl (let e : a.method ≡ b.method = same.0 in omega arith)
    | inr also ↦ inr (
      same.0 ∙ also.0,
      (
        also.1.0,
        elim same.1.1 [
          | inl first ↦ inl first
          | inr below ↦ elim also.1.1 [ inl at ↦ absurd (same.1.0 at) | inr above ↦ inr (omega arith) ]
        ],
      ),
    )
  ]
]

-- what comes before differs
apart : (a b : Step) → IsBefore a b → a.method ≡ b.method → a.mark ≡ b.mark → ⊥
apart a b h method mark = elim h [
  | inl less ↦ absurd (omega arith)
  | inr same ↦ elim same.1.1 [ inl first ↦ same.1.0 (sym mark ∙ first) | inr less ↦ absurd (omega arith) ]
]

-- numbers of which neither is less are one
neither : (i j : ℕ) → (i < j → ⊥) → (j < i → ⊥) → i ≡ j
neither i j one two = elim (cases_lt i j) [
  | inl less ↦ absurd (one less)
  | inr within ↦ elim (cases_lt j i) [ inl less ↦ absurd (two less) | inr also ↦ omega arith ]
]

module _ (p : ProblemParts) (sound : IsSound p) where
  right : (i : ℕ) → i < length p.leads → LeadIsRight p.stage (length p.letters) p.leads i
  right i inside = (sound_leads p sound).each i inside

  -- the steps ascend
  ascend : (j i : ℕ) → i < j → j < length p.leads → IsBefore (step_of p i) (step_of p j)
  ascend zero i below inside = absurd (omega arith)
  ascend (suc j) i below inside =
      let back : suc j - 1 ≡ j = omega arith in
      let next : IsBefore (step_of p j) (step_of p (suc j)) =
      next_is_after (step_of p j) (step_of p (suc j))
      (subst (λ k. IsNextStep (step_of p k) (step_of p (suc j))) back ((right (suc j) inside).next.later (omega arith))) in
      elim (cases_lt i j) [
        | inl earlier ↦ onward (step_of p i) (step_of p j) (step_of p (suc j)) (ascend j i earlier (omega arith)) next
        | inr at ↦ let same : j ≡ i = omega arith in subst (λ k. IsBefore (step_of p k) (step_of p (suc j))) same next
      ]

  -- a method and a mark have one step
  pub one_step : (i j : ℕ) → i < length p.leads → j < length p.leads → method_of p i ≡ method_of p j → mark_of p i ≡ mark_of p j → i ≡ j
  one_step i j inside within method mark =
      neither i j
      (λ less. apart (step_of p i) (step_of p j) (ascend j i less within) method mark)
      (λ less. apart (step_of p j) (step_of p i) (ascend i j less inside) (sym method) (sym mark))

  -- a letter has one method
  pub one_method : (i j : ℕ) → i < length p.letters → j < length p.letters → get_or p.letters i 0 ≡ get_or p.letters j 0 → i ≡ j
  one_method i j inside within same =
      neither i j
      (λ less. ((sound_letters p sound).each j within).new i less same)
      (λ less. ((sound_letters p sound).each i inside).new j less (sym same))

  -- a step's method is known
  pub known_method : (step : ℕ) → step < length p.leads → method_of p step < length p.letters
  known_method step inside = (right step inside).known

  -- there is a step of each method
  pub some_step : 0 < length p.leads
  some_step = (sound_leads p sound).some

  pub led : (method : ℕ) → method < length p.letters → (step : ℕ) × (step < length p.leads) × (method_of p step ≡ method)
  led = (sound_leads p sound).led
