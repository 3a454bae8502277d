-- How the fronts of a word go on: one that does not turn back repeats its first steps.
use Rattle.std.proofs.Common.{◌≡◌, ℕ, zero, suc, ◌+◌, ◌-◌, ◌<◌, ◌≤◌, List, get_or, inl, inr, sym, ap, ◌∙◌, arith}
use Rattle.std.proofs.lemmas.Bool.{cases_order}
use Rattle.cr_rotate.specs.Fronts.{Falls, Rises, FrontTurns, FrontRepeats}

-- a step by two names of its place
pub at : (word : List ℕ) (i j : ℕ) → i ≡ j → get_or word i 0 ≡ get_or word j 0
at word i j e = ap (λ k. get_or word k 0) e

-- what repeats, moved by p places more
moved_on : (word : List ℕ) (n p k i : ℕ) → FrontRepeats word n p → p ≤ k → k + i < n → get_or word (k + i) 0 ≡ get_or word (k - p + i) 0
moved_on word n p k i front past inside =
    let back : k - p + i + p ≡ k + i = omega arith in
    at word (k + i) (k - p + i + p) (sym back) ∙ front.repeats (k - p + i) (omega arith)

-- where it rises it does not fall
rise_or_fall : (word : List ℕ) (n m k i j : ℕ) → Rises word n k i → Falls word m k j → ⊥
rise_or_fall word n m k i j up down = elim (cases_order i j) [
  | inl e ↦
      let here : get_or word (k + i) 0 ≡ get_or word (k + j) 0 = ap (λ t. get_or word (k + t) 0) e in
      omega (arith, here, at word i j e, up.above, down.below)
  | inr (inl less) ↦ omega (arith, down.same i less, up.above)
  | inr (inr more) ↦ omega (arith, up.same j more, down.below)
]

no_fall : (word : List ℕ) (n p : ℕ) → FrontRepeats word n p → (fuel k j : ℕ) → k ≤ fuel → Falls word n k j → ⊥
no_fall word n p front zero k j few down = omega (arith, down.moved)
no_fall word n p front (suc fuel) k j few down = elim (cases_order k p) [
  | inl e ↦
      let here : get_or word (k + j) 0 ≡ get_or word (j + p) 0 = at word (k + j) (j + p) (omega arith) in
      omega (arith, here, front.repeats j (omega (arith, down.inside)), down.below)
  | inr (inl less) ↦ let (i, up) = front.rises k down.moved less in rise_or_fall word p n k i j up down
  | inr (inr more) ↦ no_fall word n p front fuel (k - p) j (omega (arith, front.some)) (record {
    moved = omega arith;
    inside = omega (arith, down.inside);
    same = λ i low. sym (moved_on word n p k i front (omega arith) (omega (arith, down.inside))) ∙ down.same i low;
    below = omega (arith, moved_on word n p k j front (omega arith) down.inside, down.below);
  })
]

-- a front that repeats does not turn back
pub not_both : (word : List ℕ) (n p : ℕ) → FrontRepeats word n p → FrontTurns word n → ⊥
not_both word n p front turned = no_fall word n p front turned.0 turned.0 turned.1 (omega arith) turned.2

-- the first step alone
pub first_step : (word : List ℕ) → FrontRepeats word 1 1
first_step word = record {
  some = omega arith;
  within = omega arith;
  repeats = λ i inside. absurd (omega arith);
  rises = λ k some few. absurd (omega arith);
}

-- the next step is the one that stands a period before it
pub goes_on : (word : List ℕ) (n p : ℕ) → FrontRepeats word n p → get_or word n 0 ≡ get_or word (n - p) 0 → FrontRepeats word (n + 1) p
goes_on word n p front same = record {
  some = front.some;
  within = omega (arith, front.within);
  repeats = λ i inside. elim (cases_order (i + p) n) [
    | inl e ↦ at word (i + p) n e ∙ same ∙ at word (n - p) i (omega arith)
    | inr (inl less) ↦ front.repeats i less
    | inr (inr more) ↦ absurd (omega arith)
  ];
  rises = front.rises;
}

-- the next step is greater than the one that stands a period before it: the front rises above itself however it is moved
record Above (word : List ℕ) (n p : ℕ) : Type 0 where
  front : FrontRepeats word n p
  greater : get_or word (n - p) 0 < get_or word n 0

rises_further : (word : List ℕ) (n p k j : ℕ) → Above word n p → p < k → k < n + 1 → Rises word (n + 1) (k - p) j → (i : ℕ) × Rises word (n + 1) k i
rises_further word n p k j h past inside up = elim (cases_order (k + j) n) [
  | inl e ↦ at_the_end (omega arith)
  | inr (inl less) ↦ (
    j,
    record {
      inside = omega arith;
      same = λ i low. moved_on word n p k i h.front (omega arith) (omega arith) ∙ up.same i low;
      above = omega (arith, moved_on word n p k j h.front (omega arith) less, up.above);
    },
  )
  | inr (inr more) ↦ at_the_end (omega arith)
]
  where
    shifted : n - k ≤ j → get_or word (n - k) 0 ≤ get_or word (k - p + (n - k)) 0
    shifted far = elim (cases_order (n - k) j) [
      | inl e ↦
          let here : get_or word (k - p + (n - k)) 0 ≡ get_or word (k - p + j) 0 = ap (λ t. get_or word (k - p + t) 0) e in
          omega (arith, here, at word (n - k) j e, up.above)
      | inr (inl less) ↦ omega (arith, up.same (n - k) less)
      | inr (inr more) ↦ absurd (omega arith)
    ]

    at_the_end : n - k ≤ j → (i : ℕ) × Rises word (n + 1) k i
    at_the_end far =
        let before : get_or word (k - p + (n - k)) 0 ≡ get_or word (n - p) 0 = at word (k - p + (n - k)) (n - p) (omega (arith, h.front.within)) in
        let end : get_or word (k + (n - k)) 0 ≡ get_or word n 0 = at word (k + (n - k)) n (omega arith) in (
          n - k,
          record {
            inside = omega arith;
            same = λ i low. moved_on word n p k i h.front (omega arith) (omega arith) ∙ up.same i (omega arith);
            above = omega (arith, shifted far, before, end, h.greater);
          },
        )

rises_all : (word : List ℕ) (n p : ℕ) → Above word n p → (fuel k : ℕ) → k ≤ fuel → 0 < k → k < n + 1 → (j : ℕ) × Rises word (n + 1) k j
rises_all word n p h zero k few some inside = absurd (omega arith)
rises_all word n p h (suc fuel) k few some inside = elim (cases_order k p) [
  | inl e ↦ (
    n - p,
    record {
      inside = omega (arith, h.front.within);
      same = λ i low. at word (k + i) (i + p) (omega arith) ∙ h.front.repeats i (omega (arith, h.front.within));
      above = omega (arith, h.greater, at word (k + (n - p)) n (omega (arith, h.front.within)));
    },
  )
  | inr (inl less) ↦ let (j, up) = h.front.rises k some less in (
    j,
    record {
      inside = omega (arith, up.inside, h.front.within);
      same = up.same;
      above = up.above;
    },
  )
  | inr (inr more) ↦
      let (j, up) = rises_all word n p h fuel (k - p) (omega (arith, h.front.some)) (omega arith) (omega arith) in
      rises_further word n p k j h more inside up
]

pub begins_anew : (word : List ℕ) (n p : ℕ) → FrontRepeats word n p → get_or word (n - p) 0 < get_or word n 0 → FrontRepeats word (n + 1) (n + 1)
begins_anew word n p front greater = record {
  some = omega arith;
  within = omega arith;
  repeats = λ i inside. absurd (omega arith);
  rises = λ k some few. rises_all word n p (record { front = front; greater = greater }) k k (omega arith) some few;
}

-- the next step is less than the one that stands a period before it
pub turns : (word : List ℕ) (n p : ℕ) → FrontRepeats word n p → get_or word n 0 < get_or word (n - p) 0 → FrontTurns word (n + 1)
turns word n p front less = (
  p,
  n - p,
  record {
    moved = front.some;
    inside = omega (arith, front.within);
    same = λ i low. at word (p + i) (i + p) (omega arith) ∙ front.repeats i (omega (arith, front.within));
    below = omega (arith, less, at word (p + (n - p)) n (omega (arith, front.within)));
  },
)

-- a longer front turns back too
pub still_turned : (word : List ℕ) (n m : ℕ) → n ≤ m → FrontTurns word n → FrontTurns word m
still_turned word n m longer turned =
    let down = turned.2 in
    (turned.0, turned.1, record { moved = down.moved; inside = omega (arith, down.inside); same = down.same; below = down.below })
