-- Leads in the order of the steps.
use Rattle.std.proofs.Common.{◌≡◌, ◌≢◌, ℕ, zero, suc, ◌+◌, ◌<◌, ◌≤◌, ◌⊎◌, List, [], ◌∷◌, ◌++◌, length, refl, sym, ap, subst, ◌∙◌, inl, inr, arith}
use Rattle.std.specs.Prelude.{flat_map, All}
use Rattle.std.specs.List.{range_with_len}
use Rattle.std.proofs.lemmas.Bool.{cases_lt}
use Rattle.std.proofs.lemmas.List.Elements.{All-append, All-nil, All-cons}
use Rattle.cr_row.specs.Rows.{Places}
use Rattle.cr_model.specs.declared.lead.Step.{Step}
use Rattle.cr_model.specs.Problems.{LeadParts}
use Rattle.cr_model.specs.Callings.{step_at}
use Rattle.cr_model.specs.Right.{plain, IsNextStep}
use Rattle.cr_model.specs.ProblemFiles.{lead_from}

-- each step follows the one before
abbrev pub Chained : Step → List LeadParts → Type 0
Chained before [] = Unit {0}
Chained before (lead ∷ leads) = IsNextStep before lead.step × Chained lead.step leads

abbrev pub last_step : Step → List LeadParts → Step
last_step before [] = before
last_step before (lead ∷ leads) = last_step lead.step leads

pub chained_append : (before : Step) (xs ys : List LeadParts) → Chained before xs → Chained (last_step before xs) ys → Chained before (xs ++ ys)
chained_append before [] ys h g = g
chained_append before (x ∷ xs) ys h g = (h.0, chained_append x.step xs ys h.1 g)

pub last_append : (before : Step) (xs ys : List LeadParts) → last_step before (xs ++ ys) ≡ last_step (last_step before xs) ys
last_append before [] ys = refl
last_append before (x ∷ xs) ys = last_append x.step xs ys

pub chained_at : (first : LeadParts) (leads : List LeadParts) → Chained first.step leads → (i : ℕ) → i < length leads → IsNextStep (step_at (first ∷ leads) i) (step_at (first ∷ leads) (suc i))
chained_at first [] h i low = absurd (omega arith)
chained_at first (lead ∷ leads) h zero low = h.0
chained_at first (lead ∷ leads) h (suc i) low = chained_at lead leads h.1 i (omega arith)

-- leads made from a range hold what each of them does
pub each_of : (P : LeadParts → Type 0) (f : ℕ → List LeadParts) (a n : ℕ) → ((i : ℕ) → a ≤ i → i < a + n → All P (f i)) → All P (flat_map f (range_with_len a n))
each_of P f a zero each = All-nil P
each_of P f a (suc n) each =
    All-append P (f a) (flat_map f (range_with_len (a + 1) n)) (each a (omega arith) (omega arith))
    (each_of P f (a + 1) n (λ i low high. each i (omega arith) (omega arith)))

-- some lead is of the method
abbrev pub IsLed : ℕ → List LeadParts → Type 0
IsLed method leads = (i : ℕ) × (i < length leads) × ((step_at leads i).method ≡ method)

led_later : (method : ℕ) (lead : LeadParts) (leads : List LeadParts) → IsLed method leads → IsLed method (lead ∷ leads)
led_later method lead leads led = (suc led.0, (let h : led.0 < length leads = led.1 in omega arith), led.2)

led_right : (method : ℕ) (xs ys : List LeadParts) → IsLed method ys → IsLed method (xs ++ ys)
led_right method [] ys led = led
led_right method (x ∷ xs) ys led = led_later method x (xs ++ ys) (led_right method xs ys led)

-- the leads of a method with a mark: none, or one, which is no plain lead
abbrev pub IsMarked : (LeadParts → Type 0) → ℕ → ℕ → List LeadParts → Type 0
IsMarked P method mark leads = (leads ≡ []) ⊎ ((changes : List Places) × (leads ≡ lead_from method mark changes ∷ []) × (mark ≢ plain) × P (lead_from method mark changes))

pub marked_each : (P : LeadParts → Type 0) (method mark : ℕ) (leads : List LeadParts) → IsMarked P method mark leads → All P leads
marked_each P method mark leads (inl none) = subst (All P) (sym none) (All-nil P)
marked_each P method mark leads (inr one) = subst (All P) (sym one.1) (All-cons P (lead_from method mark one.0) [] one.3 (All-nil P))

-- the leads of one method are in order
abbrev pub GoOn : Step → ℕ → List LeadParts → Type 0
GoOn before method leads = Chained before leads × ((last_step before leads).method ≡ method)

lower : (before : Step) (a : ℕ) → (before.mark ≡ plain) ⊎ (before.mark < a) → (before.mark ≡ plain) ⊎ (before.mark < a + 1)
lower before a (inl is) = inl is
lower before a (inr less) = inr (omega arith)

go_on : (P : LeadParts → Type 0) (method a : ℕ) (here rest : List LeadParts) (before : Step) → before.method ≡ method → ((before.mark ≡ plain) ⊎ (before.mark < a)) → IsMarked P method a here
    → ((next : Step) → next.method ≡ method → ((next.mark ≡ plain) ⊎ (next.mark < a + 1)) → GoOn next method rest) → GoOn before method (here ++ rest)
go_on P method a here rest before same low (inl none) later = subst (λ (front : List LeadParts). GoOn before method (front ++ rest)) (sym none) (later before same (lower before a low))
go_on P method a here rest before same low (inr one) later =
    let on = later (record { method = method; mark = a }) refl (inr (omega arith)) in
    subst (λ (front : List LeadParts). GoOn before method (front ++ rest)) (sym one.1) ((inl (sym same, (one.2, low)), on.0), on.1)

pub marks_in_order : (P : LeadParts → Type 0) (method : ℕ) (g : ℕ → List LeadParts) (before : Step) (a n : ℕ) → ((mark : ℕ) → a ≤ mark → mark < a + n → IsMarked P method mark (g mark))
    → before.method ≡ method → ((before.mark ≡ plain) ⊎ (before.mark < a)) → GoOn before method (flat_map g (range_with_len a n))
marks_in_order P method g before a zero marked same low = (tt, same)
marks_in_order P method g before a (suc n) marked same low =
    go_on P method a (g a) (flat_map g (range_with_len (a + 1) n)) before same low (marked a (omega arith) (omega arith))
    (λ next is less. marks_in_order P method g next (a + 1) n (λ mark h k. marked mark (omega arith) (omega arith)) is less)

-- the leads of the methods are in order
pub methods_in_order : (first : ℕ → LeadParts) (g : ℕ → List LeadParts) (before : Step) (a n : ℕ)
    → ((m : ℕ) → a ≤ m → m < a + n → ((first m).step ≡ record { method = m; mark = plain }) × GoOn (first m).step m (g m))
    → before.method + 1 ≡ a → Chained before (flat_map (λ m. first m ∷ g m) (range_with_len a n))
methods_in_order first g before a zero each next = tt
methods_in_order first g before a (suc n) each next =
    let here = each a (omega arith) (omega arith) in
    let method : (first a).step.method ≡ a = ap (λ s. s.method) here.0 in
    let mark : (first a).step.mark ≡ plain = ap (λ s. s.mark) here.0 in (
      inr (method ∙ sym next, mark),
      chained_append (first a).step (g a) (flat_map (λ m. first m ∷ g m) (range_with_len (a + 1) n)) here.1.0
          (methods_in_order first g (last_step (first a).step (g a)) (a + 1) n (λ m low high. each m (omega arith) (omega arith)) (ap (λ x. x + 1) here.1.1)),
    )

-- each method has a lead
pub methods_led : (first : ℕ → LeadParts) (g : ℕ → List LeadParts) (a n m : ℕ) → ((i : ℕ) → (first i).step.method ≡ i) → a ≤ m → m < a + n → IsLed m (flat_map (λ i. first i ∷ g i) (range_with_len a n))
methods_led first g a zero m is low high = absurd (omega arith)
methods_led first g a (suc n) m is low high = elim (cases_lt a m) [
  | inl less ↦ led_right m (first a ∷ g a) (flat_map (λ i. first i ∷ g i) (range_with_len (a + 1) n)) (methods_led first g (a + 1) n m is (omega arith) (omega arith))
  | inr more ↦ (0, omega arith, is a ∙ (omega arith))
]
