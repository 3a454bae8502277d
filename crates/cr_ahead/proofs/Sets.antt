-- What answers say of sets that are joined, and of sets whose members begin with one more step.
use Rattle.std.proofs.Common.{◌≡◌, ℕ, ◌+◌, ◌≤◌, ◌⊎◌, min, max, List, ◌∷◌, Option, Some, None, refl, ap, subst, inl, inr, arith}
use Rattle.std.proofs.lemmas.Bool.{cases_lt}
use Rattle.cr_ahead.specs.declared.gains.Gains.{Gains}
use Rattle.cr_ahead.specs.Extremes.{IsLeast, IsGreatest}
use Rattle.cr_ahead.specs.Ways.{Tells}
use Rattle.cr_ahead.specs.Cells.{joined, raised}

-- two sets that make a third one together
module _ (One Other Both : List ℕ → Type 0) (number_of : List ℕ → ℕ)
    (split : (x : List ℕ) → Both x → One x ⊎ Other x)
    (left : (x : List ℕ) → One x → Both x) (right : (x : List ℕ) → Other x → Both x) where
  least_left : (a b : ℕ) → a ≤ b → IsLeast One number_of a → ((x : List ℕ) → Other x → b ≤ number_of x) → IsLeast Both number_of a
  least_left a b low is more = record {
    one = is.one;
    holds = left is.one is.holds;
    is = is.is;
    no_less = λ x h. elim (split x h) [ inl g ↦ is.no_less x g | inr g ↦ omega (arith, more x g) ];
  }

  least_right : (a b : ℕ) → b ≤ a → IsLeast Other number_of b → ((x : List ℕ) → One x → a ≤ number_of x) → IsLeast Both number_of b
  least_right a b low is more = record {
    one = is.one;
    holds = right is.one is.holds;
    is = is.is;
    no_less = λ x h. elim (split x h) [ inl g ↦ omega (arith, more x g) | inr g ↦ is.no_less x g ];
  }

  greatest_left : (a b : ℕ) → b ≤ a → IsGreatest One number_of a → ((x : List ℕ) → Other x → number_of x ≤ b) → IsGreatest Both number_of a
  greatest_left a b high is less = record {
    one = is.one;
    holds = left is.one is.holds;
    is = is.is;
    no_more = λ x h. elim (split x h) [ inl g ↦ is.no_more x g | inr g ↦ omega (arith, less x g) ];
  }

  greatest_right : (a b : ℕ) → a ≤ b → IsGreatest Other number_of b → ((x : List ℕ) → One x → number_of x ≤ a) → IsGreatest Both number_of b
  greatest_right a b high is less = record {
    one = is.one;
    holds = right is.one is.holds;
    is = is.is;
    no_more = λ x h. elim (split x h) [ inl g ↦ omega (arith, less x g) | inr g ↦ is.no_more x g ];
  }

  least_joined : (a b : ℕ) → IsLeast One number_of a → IsLeast Other number_of b → IsLeast Both number_of (min a b)
  least_joined a b is other = elim (cases_lt b a) [
    | inl low ↦ let e : b ≡ min a b = omega arith in subst (IsLeast Both number_of) e (least_right a b (omega arith) other is.no_less)
    | inr low ↦ let e : a ≡ min a b = omega arith in subst (IsLeast Both number_of) e (least_left a b low is other.no_less)
  ]

  greatest_joined : (a b : ℕ) → IsGreatest One number_of a → IsGreatest Other number_of b → IsGreatest Both number_of (max a b)
  greatest_joined a b is other = elim (cases_lt b a) [
    | inl low ↦ let e : a ≡ max a b = omega arith in subst (IsGreatest Both number_of) e (greatest_left a b (omega arith) is other.no_more)
    | inr low ↦ let e : b ≡ max a b = omega arith in subst (IsGreatest Both number_of) e (greatest_right a b low other is.no_more)
  ]

  pub tells_joined : (one other : Option Gains) → Tells One number_of one → Tells Other number_of other → Tells Both number_of (joined one other)
  tells_joined None None none none' = λ x h. elim (split x h) [ inl g ↦ none x g | inr g ↦ none' x g ]
  tells_joined None (Some g) none is = (
    least_right g.least g.least (omega arith) is.0 (λ x h. absurd (none x h)),
    greatest_right g.greatest g.greatest (omega arith) is.1 (λ x h. absurd (none x h)),
  )
  tells_joined (Some g) None is none = (
    least_left g.least g.least (omega arith) is.0 (λ x h. absurd (none x h)),
    greatest_left g.greatest g.greatest (omega arith) is.1 (λ x h. absurd (none x h)),
  )
  tells_joined (Some g) (Some h) is other =
      (least_joined g.least h.least is.0 other.0, greatest_joined g.greatest h.greatest is.1 other.1)

-- a set of lists with one more step in front, each of which has so much more
module _ (Rest All_of : List ℕ → Type 0) (rest_of all_of : List ℕ → ℕ) (step by : ℕ)
    (there : (x : List ℕ) → Rest x → All_of (step ∷ x))
    (back : (y : List ℕ) → All_of y → (x : List ℕ) × Rest x × (y ≡ step ∷ x))
    (more : (x : List ℕ) → all_of (step ∷ x) ≡ by + rest_of x) where
  pub tells_raised : (gains : Option Gains) → Tells Rest rest_of gains → Tells All_of all_of (raised by gains)
  tells_raised None none = λ y h. let from = back y h in none from.0 from.1
  tells_raised (Some g) is = (
    record {
      one = step ∷ is.0.one;
      holds = there is.0.one is.0.holds;
      is = omega (arith, more is.0.one, is.0.is);
      no_less = λ y h. let from = back y h in
          let e : all_of y ≡ all_of (step ∷ from.0) = ap all_of from.2 in
          omega (arith, e, more from.0, is.0.no_less from.0 from.1);
    },
    record {
      one = step ∷ is.1.one;
      holds = there is.1.one is.1.holds;
      is = omega (arith, more is.1.one, is.1.is);
      no_more = λ y h. let from = back y h in
          let e : all_of y ≡ all_of (step ∷ from.0) = ap all_of from.2 in
          omega (arith, e, more from.0, is.1.no_more from.0 from.1);
    },
  )

-- sets with the same members
pub tells_same : (One Other : List ℕ → Type 0) (number_of : List ℕ → ℕ) → ((x : List ℕ) → One x → Other x) → ((x : List ℕ) → Other x → One x)
    → (gains : Option Gains) → Tells One number_of gains → Tells Other number_of gains
tells_same One Other number_of there back None none = λ x h. none x (back x h)
tells_same One Other number_of there back (Some g) is = (
  record { one = is.0.one; holds = there is.0.one is.0.holds; is = is.0.is; no_less = λ x h. is.0.no_less x (back x h) },
  record { one = is.1.one; holds = there is.1.one is.1.holds; is = is.1.is; no_more = λ x h. is.1.no_more x (back x h) },
)

-- there is one answer
least_is_one : (Holds : List ℕ → Type 0) (number_of : List ℕ → ℕ) (a b : ℕ) → IsLeast Holds number_of a → IsLeast Holds number_of b → a ≡ b
least_is_one Holds number_of a b is other =
    let low = is.no_less other.one other.holds in
    let high = other.no_less is.one is.holds in
    omega (arith, low, high, is.is, other.is)

greatest_is_one : (Holds : List ℕ → Type 0) (number_of : List ℕ → ℕ) (a b : ℕ) → IsGreatest Holds number_of a → IsGreatest Holds number_of b → a ≡ b
greatest_is_one Holds number_of a b is other =
    let low = is.no_more other.one other.holds in
    let high = other.no_more is.one is.holds in
    omega (arith, low, high, is.is, other.is)

pub tells_one : (Holds : List ℕ → Type 0) (number_of : List ℕ → ℕ) (a b : Option Gains) → Tells Holds number_of a → Tells Holds number_of b → a ≡ b
tells_one Holds number_of None None is other = refl
tells_one Holds number_of None (Some h) is other = absurd (is other.0.one other.0.holds)
tells_one Holds number_of (Some g) None is other = absurd (other is.0.one is.0.holds)
tells_one Holds number_of (Some g) (Some h) is other =
    let low : g.least ≡ h.least = least_is_one Holds number_of g.least h.least is.0 other.0 in
    let high : g.greatest ≡ h.greatest = greatest_is_one Holds number_of g.greatest h.greatest is.1 other.1 in
    λ i. Some (record { least = low i; greatest = high i })

-- the same numbers by another function
pub tells_alike : (Holds : List ℕ → Type 0) (one other : List ℕ → ℕ) → ((x : List ℕ) → one x ≡ other x) → (gains : Option Gains)
    → Tells Holds one gains → Tells Holds other gains
tells_alike Holds one other same None none = none
tells_alike Holds one other same (Some g) is = (
  record { one = is.0.one; holds = is.0.holds; is = omega (arith, same is.0.one, is.0.is); no_less = λ x h. omega (arith, same x, is.0.no_less x h) },
  record { one = is.1.one; holds = is.1.holds; is = omega (arith, same is.1.one, is.1.is); no_more = λ x h. omega (arith, same x, is.1.no_more x h) },
)
