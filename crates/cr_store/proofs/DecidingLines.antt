-- Whether a line is that of a touch or of a node can be told.
use Rattle.std.proofs.Common.{◌≡◌, ◌≢◌, ℕ, zero, suc, ◌/◌, ◌<◌, ◌≤◌, ◌⊎◌, Bool, true, false, cond, nat_eq, nat_lt, nat_abs, List, [], ◌∷◌, ◌++◌, length, take, drop, codes, inl, inr, refl, sym, ap, ap₂, ◌∙◌, subst, arith, eqb-true, eq-eqb, take-append-drop}
use Rattle.std.specs.Cmp.Lexicographic.{pointwise}
use Rattle.std.proofs.lemmas.Bool.{cases_Bool, cases_lt, false≢true}
use Rattle.std.proofs.lemmas.List.{take_at, drop_at, length-drop}
use Rattle.std.proofs.lemmas.List.Elements.{All-nil, All-cons, All-head, All-tail}
use Rattle.std.proofs.lemmas.Slice.Eq.{bytes_eq-Decides}
use Rattle.cr_model.specs.Problems.{ProblemParts}
use Rattle.cr_model.specs.Callings.{HasSteps, length_of, mark_of, letter_of}
use Rattle.cr_model.specs.Queries.{repeated}
use Rattle.cr_model.specs.Limits.{most_leads}
use Rattle.cr_model.specs.Books.{lead_text, calling_text}
use Rattle.cr_model.specs.Checkpoints.{steps_text}
use Rattle.cr_model.specs.Sound.{IsSound}
use Rattle.cr_book.specs.Readings.{IsCallingText}
use Rattle.cr_store.specs.Shapes.{FoundParts, NodeParts}
use Rattle.cr_query.specs.Meeting.{HasParts}
use Rattle.cr_store.specs.Lines.{left_out, IsTouchOf, IsNodeOf}
use Rattle.cr_store.specs.Reading.{IsStepsText}
use Rattle.cr_model.proofs.Parts.{repeats_first}
use Rattle.cr_store.proofs.StepTexts.{OneCalling, node_is, node_told, node_made, low_shared}

-- it is so, or it is not
abbrev pub Decided : Type 0 → Type 0
Decided P = P ⊎ (P → ⊥)

-- some list is so, or none is
abbrev pub Told : (List ℕ → Type 0) → Type 0
Told P = ((x : List ℕ) × P x) ⊎ ((x : List ℕ) → P x → ⊥)

pub same_or_not : (a b : List ℕ) → Decided (a ≡ b)
same_or_not a b = elim (cases_Bool (pointwise nat_eq a b)) [
  | inl same ↦ inl ((bytes_eq-Decides a b).0 same)
  | inr other ↦ inr (λ e. false≢true (sym other ∙ (bytes_eq-Decides a b).1 e))
]

pub equal_or_not : (a b : ℕ) → Decided (a ≡ b)
equal_or_not a b = elim (cases_Bool (nat_eq a b)) [
  | inl same ↦ inl (eqb-true a b same)
  | inr other ↦ inr (λ e. false≢true (sym other ∙ eq-eqb a b e))
]

pub low_or_not : (a b : ℕ) → Decided (a ≤ b)
low_or_not a b = elim (cases_lt b a) [
  | inl more ↦ inr (λ low. absurd (omega arith))
  | inr less ↦ inl (omega arith)
]

-- both, or not both
pub both_or_not : (P Q : Type 0) → Decided P → Decided Q → Decided (P × Q)
both_or_not P Q (inl p) (inl q) = inl (p, q)
both_or_not P Q (inl p) (inr q) = inr (λ b. q b.1)
both_or_not P Q (inr p) q = inr (λ b. p b.0)

module _ (p : ProblemParts) where
  abbrev width : ℕ
  width = cond (nat_lt 1 (length p.letters)) 2 1

  some_width : (b : Bool) → 1 ≤ cond {A = ℕ} b 2 1
  some_width true = omega arith
  some_width false = omega arith

  as_wide : (b : Bool) (x y : ℕ) → length (cond b (x ∷ y ∷ []) (y ∷ [])) ≡ cond b 2 1
  as_wide true x y = refl
  as_wide false x y = refl

  wide : (step : ℕ) → length (lead_text p step) ≡ width
  wide step = as_wide (nat_lt 1 (length p.letters)) (letter_of p step) (mark_of p step)

  -- some step below a number has the text, or none has
  step_or_none : (text : List ℕ) (number : ℕ) → ((step : ℕ) × (step < number) × (lead_text p step ≡ text)) ⊎ ((step : ℕ) → step < number → lead_text p step ≡ text → ⊥)
  step_or_none text zero = inr (λ step low e. absurd (omega arith))
  step_or_none text (suc number) = by (same_or_not (lead_text p number) text) (step_or_none text number)
    where
      by : Decided (lead_text p number ≡ text) → ((step : ℕ) × (step < number) × (lead_text p step ≡ text)) ⊎ ((step : ℕ) → step < number → lead_text p step ≡ text → ⊥)
          → ((step : ℕ) × (step < suc number) × (lead_text p step ≡ text)) ⊎ ((step : ℕ) → step < suc number → lead_text p step ≡ text → ⊥)
      by (inl is) before = inl (number, omega arith, is)
      by (inr other) (inl before) = inl (before.0, omega (arith, before.1), before.2)
      by (inr other) (inr none) = inr (λ step low e. elim (cases_lt step number) [
        | inl less ↦ none step less e
        | inr more ↦ let last : step ≡ number = omega arith in other (ap (lead_text p) (sym last) ∙ e)
      ])

  abbrev HasText : List ℕ → List ℕ → Type 0
  HasText text calling = HasSteps p calling × (calling_text p calling ≡ text)

  first_lead : (text : List ℕ) (step : ℕ) (calling : List ℕ) → HasText text (step ∷ calling) → lead_text p step ≡ take width text
  first_lead text step calling has = sym (take_at (lead_text p step) (calling_text p calling) width (wide step)) ∙ ap (take width) has.1

  later_leads : (text : List ℕ) (step : ℕ) (calling : List ℕ) → HasText text (step ∷ calling) → HasText (drop width text) calling
  later_leads text step calling has = (
    All-tail (λ s. s < length p.leads) step calling has.0,
    sym (drop_at (lead_text p step) (calling_text p calling) width (wide step)) ∙ ap (drop width) has.1,
  )

  -- some steps have the text, or none have
  steps_or_none : (room : ℕ) (text : List ℕ) → length text ≤ room → Told (HasText text)
  steps_or_none room [] few = inl ([], (All-nil (λ s. s < length p.leads), refl))
  steps_or_none zero (x ∷ text) few = absurd (omega arith)
  steps_or_none (suc room) (x ∷ text) few =
      by (step_or_none (take width (x ∷ text)) (length p.leads))
      (steps_or_none room (drop width (x ∷ text)) (omega (arith, few, length-drop width (x ∷ text), some_width (nat_lt 1 (length p.letters)))))
    where
      by : ((step : ℕ) × (step < length p.leads) × (lead_text p step ≡ take width (x ∷ text))) ⊎ ((step : ℕ) → step < length p.leads → lead_text p step ≡ take width (x ∷ text) → ⊥)
          → Told (HasText (drop width (x ∷ text))) → Told (HasText (x ∷ text))
      by (inr none) later = inr no_first
        where
          no_first : (calling : List ℕ) → HasText (x ∷ text) calling → ⊥
          no_first [] has = absurd (cc (has.1))
          no_first (step ∷ calling) has = none step (All-head (λ s. s < length p.leads) step calling has.0) (first_lead (x ∷ text) step calling has)
      by (inl first) (inl later) = inl (
        first.0 ∷ later.0,
        (
          All-cons (λ s. s < length p.leads) first.0 later.0 first.1 later.1.0,
          ap₂ ◌++◌ first.2 later.1.1 ∙ take-append-drop width (x ∷ text),
        ),
      )
      by (inl first) (inr none) = inr no_later
        where
          no_later : (calling : List ℕ) → HasText (x ∷ text) calling → ⊥
          no_later [] has = absurd (cc (has.1))
          no_later (step ∷ calling) has = none calling (later_leads (x ∷ text) step calling has)

  -- a list of steps is a calling's, and a touch's
  short_or_not : (calling : List ℕ) → Decided ((1 ≤ length calling) × (length calling ≤ most_leads))
  short_or_not calling = both_or_not (1 ≤ length calling) (length calling ≤ most_leads) (low_or_not 1 (length calling)) (low_or_not (length calling) most_leads)

  parts_or_not : (calling : List ℕ) → Decided (HasParts p calling)
  parts_or_not calling =
      let number = nat_abs p.query.parts in
      let word = take (length calling / number) calling in
      elim (same_or_not calling (repeated number word)) [
        | inl is ↦ inl (word, is)
        | inr other ↦ inr (λ has. other (repeats_first number calling has.0 has.1))
      ]

module _ (p : ProblemParts) (sound : IsSound p) (one : OneCalling p) where
  -- a text is that of a calling
  pub calling_or_none : (text : List ℕ) → Told (IsCallingText p text)
  calling_or_none text = by (steps_or_none p (length text) text (omega arith))
    where
      by : Told (HasText p text) → Told (IsCallingText p text)
      by (inr none) = inr (λ calling is. none calling (is.readable.steps, is.is))
      by (inl some) = elim (short_or_not p some.0) [
        | inl short ↦ inl (some.0, record { readable = record { steps = some.1.0; some = short.0; few = short.1 }; is = some.1.1 })
        | inr long ↦ inr (λ calling is.
            let same : calling ≡ some.0 = one calling some.0 is.readable.steps some.1.0 (is.is ∙ sym some.1.1) in
            long (subst (λ c. (1 ≤ length c) × (length c ≤ most_leads)) same (is.readable.some, is.readable.few)))
      ]

  -- a line is that of a touch
  pub touch_or_none : (line : FoundParts) → Told (IsTouchOf p line)
  touch_or_none line = by (calling_or_none line.calling)
    where
      by : Told (IsCallingText p line.calling) → Told (IsTouchOf p line)
      by (inr none) = inr (λ touch is. none touch is.calling)
      by (inl some) = elim (both_or_not (line.length ≡ length_of p some.0) (HasParts p some.0) (equal_or_not line.length (length_of p some.0)) (parts_or_not p some.0)) [
        | inl both ↦ inl (some.0, record { calling = some.1; long = both.0; parts = both.1 })
        | inr other ↦ inr (λ touch is.
            let same : touch ≡ some.0 = one touch some.0 is.calling.readable.steps some.1.readable.steps (is.calling.is ∙ sym some.1.is) in
            other (subst (λ c. (line.length ≡ length_of p c) × HasParts p c) same (is.long, is.parts)))
      ]

  -- a text is that of steps
  steps_text_or_none : (text : List ℕ) → Told (IsStepsText p text)
  steps_text_or_none text = elim (same_or_not text (codes "-")) [
    | inl dash ↦ inl ([], record { known = All-nil (λ s. s < length p.leads); few = omega arith; is = sym dash })
    | inr other ↦ by other (calling_or_none text)
  ]
    where
      by : (text ≢ codes "-") → Told (IsCallingText p text) → Told (IsStepsText p text)
      by other (inr none) = inr no_steps
        where
          no_steps : (steps : List ℕ) → IsStepsText p text steps → ⊥
          no_steps [] is = other (sym is.is)
          no_steps (step ∷ steps) is = none (step ∷ steps) (record { readable = record { steps = is.known; some = omega arith; few = is.few }; is = is.is })
      by other (inl some) = inl (some.0, record { known = some.1.readable.steps; few = some.1.readable.few; is = shown some.0 some.1.readable.some ∙ some.1.is })
        where
          shown : (calling : List ℕ) → 1 ≤ length calling → steps_text p calling ≡ calling_text p calling
          shown [] some = absurd (omega arith)
          shown (step ∷ calling) some = refl

  -- a line after a node is that of one
  pub node_or_none : (version : ℕ) (before : List ℕ) (line : NodeParts) → HasSteps p before → Told (IsNodeOf p version before line)
  node_or_none version before line known = by (steps_text_or_none line.steps)
    where
      by : Told (IsStepsText p line.steps) → Told (IsNodeOf p version before line)
      by (inr none) = inr (λ node is. none (drop (left_out version before node) node) (node_told p version before line node is))
      by (inl rest) =
          let node = take line.shared before ++ rest.0 in
          elim (both_or_not (line.shared ≤ length before) ((length node ≤ most_leads) × (line.shared ≡ left_out version before node)) (low_or_not line.shared (length before))
          (both_or_not (length node ≤ most_leads) (line.shared ≡ left_out version before node) (low_or_not (length node) most_leads) (equal_or_not line.shared (left_out version before node)))) [
            | inl all ↦ inl (node, node_made p version before line rest.0 known rest.1 all.0 all.1.0 all.1.1)
            | inr other ↦ inr (λ another is.
                let same : another ≡ node = node_is p sound one version before another rest.0 line.shared is.steps is.shared rest.1.known (rest.1.is ∙ is.rest) in
                other (low_shared version before line.shared another is.shared, subst (λ n. (length n ≤ most_leads) × (line.shared ≡ left_out version before n)) same (is.few, is.shared)))
          ]
