-- The first number that passes a test.
use Rattle.std.proofs.Common.{◌≡◌, ℕ, zero, suc, ◌+◌, ◌-◌, ◌<◌, ◌≤◌, ◌⊎◌, Bool, true, false, cond, List, ◌++◌, Option, Some, None, inl, inr, refl, sym, ap, ◌∙◌, arith}
use Rattle.std.specs.Prelude.{find}
use Rattle.std.specs.List.{range_with_len}
use Rattle.std.proofs.lemmas.Bool.{cases_eq}
use Rattle.std.proofs.lemmas.Option.{none-some, same_Some}
use Rattle.std.specs.Option.{option_or}
use Rattle.std.proofs.lemmas.List.Folds.{find-append}
use Rattle.cr_board.specs.Choices.{first_from, round}

module _ (test : ℕ → Bool) where
  -- what is found passes, and is one of the numbers
  pub found_passes : (from count x : ℕ) → find test (range_with_len from count) ≡ Some x → (test x ≡ true) × (from ≤ x) × (x < from + count)
  found_passes from zero x found = absurd (none-some x found)
  found_passes from (suc count) x found = by (test from) refl (found_passes (from + 1) count x)
    where
      by : (b : Bool) → test from ≡ b → (find test (range_with_len (from + 1) count) ≡ Some x → (test x ≡ true) × (from + 1 ≤ x) × (x < from + 1 + count))
          → (test x ≡ true) × (from ≤ x) × (x < from + suc count)
      by true passes later =
          let here : Some from ≡ Some x = sym (ap (λ b. cond b (Some from) (find test (range_with_len (from + 1) count))) passes) ∙ found in
          let same = same_Some from x here in
          (sym (ap test same) ∙ passes, omega arith, omega arith)
      by false fails later =
          let there = sym (ap (λ b. cond b (Some from) (find test (range_with_len (from + 1) count))) fails) ∙ found in
          let (passes, low, high) = later there in
          (passes, omega arith, omega arith)

  -- where none before a number passes and it does, it is found
  pub first_is : (from before count : ℕ) → ((k : ℕ) → k < before → test (from + k) ≡ false) → before < count → test (from + before) ≡ true
      → find test (range_with_len from count) ≡ Some (from + before)
  first_is from before zero none inside passes = absurd (omega arith)
  first_is from zero (suc count) none inside passes =
      let at : from + 0 ≡ from = omega arith in
      ap (λ b. cond b (Some from) (find test (range_with_len (from + 1) count))) (ap test (sym at) ∙ passes) ∙ ap Some (sym at)
  first_is from (suc before) (suc count) none inside passes =
      let at : from + 0 ≡ from = omega arith in
      let step : from + 1 + before ≡ from + suc before = omega arith in
      ap (λ b. cond b (Some from) (find test (range_with_len (from + 1) count))) (ap test (sym at) ∙ none zero (omega arith))
      ∙ first_is (from + 1) before count
      (λ k below. let e : from + 1 + k ≡ from + suc k = omega arith in ap test e ∙ none (suc k) (omega arith))
      (omega arith) (ap test step ∙ passes)
      ∙ ap Some step

  -- and where none passes nothing is found
  pub none_is : (from count : ℕ) → ((k : ℕ) → k < count → test (from + k) ≡ false) → find test (range_with_len from count) ≡ None
  none_is from zero none = refl
  none_is from (suc count) none =
      let at : from + 0 ≡ from = omega arith in
      ap (λ b. cond b (Some from) (find test (range_with_len (from + 1) count))) (ap test (sym at) ∙ none zero (omega arith))
      ∙ none_is (from + 1) count (λ k below. let e : from + 1 + k ≡ from + suc k = omega arith in ap test e ∙ none (suc k) (omega arith))

  -- where none is found none passes
  pub none_found : (from count : ℕ) → find test (range_with_len from count) ≡ None → (k : ℕ) → k < count → test (from + k) ≡ false
  none_found from zero none k below = absurd (omega arith)
  none_found from (suc count) none k below = by (test from) refl (none_found (from + 1) count) k below
    where
      by : (b : Bool) → test from ≡ b → (find test (range_with_len (from + 1) count) ≡ None → (j : ℕ) → j < count → test (from + 1 + j) ≡ false)
          → (j : ℕ) → j < suc count → test (from + j) ≡ false
      by true passes later j inside =
          let here : Some from ≡ None = sym (ap (λ b. cond b (Some from) (find test (range_with_len (from + 1) count))) passes) ∙ none in
          absurd (none-some from (sym here))
      by false fails later zero inside = let at : from + 0 ≡ from = omega arith in ap test at ∙ fails
      by false fails later (suc j) inside =
          let there = sym (ap (λ b. cond b (Some from) (find test (range_with_len (from + 1) count))) fails) ∙ none in
          let e : from + suc j ≡ from + 1 + j = omega arith in
          ap test e ∙ later there j (omega arith)

module _ (test : ℕ → Bool) (from end : ℕ) where
  -- the first number that passes, where none before it does
  pub first_at : (at : ℕ) → ((k : ℕ) → from ≤ k → k < at → test k ≡ false) → from ≤ at → at < end → test at ≡ true → Some at ≡ first_from test from end
  first_at at none low high passes =
      let place : from + (at - from) ≡ at = omega arith in
      sym (first_is test from (at - from) (end - from) (λ k below. none (from + k) (omega arith) (omega arith)) (omega arith) (ap test place ∙ passes) ∙ ap Some place)

  -- and none, where none does
  pub none_at : ((k : ℕ) → from ≤ k → k < end → test k ≡ false) → None ≡ first_from test from end
  none_at none = sym (none_is test from (end - from) (λ k below. none (from + k) (omega arith) (omega arith)))

-- one number more that does not pass
pub none_more : (test : ℕ → Bool) (from at : ℕ) → ((k : ℕ) → from ≤ k → k < at → test k ≡ false) → test at ≡ false → (k : ℕ) → from ≤ k → k < at + 1 → test k ≡ false
none_more test from at none fails k low below = elim (cases_eq k at) [
  | inl e ↦ ap test e ∙ fails
  | inr differ ↦ none k low (omega arith)
]

module _ (test : ℕ → Bool) (worker workers : ℕ) where
  -- what is found from a worker on is found on the way round
  pub round_up : (lane : ℕ) → Some lane ≡ first_from test worker workers → Some lane ≡ find test (round worker workers)
  round_up lane is = ap (λ o. option_or o (find test (range_with_len 0 worker))) is ∙ sym (find-append test (range_with_len worker (workers - worker)) (range_with_len 0 worker))

  -- and else what is found below it
  pub round_down : (lane : Option ℕ) → None ≡ first_from test worker workers → lane ≡ first_from test 0 worker → lane ≡ find test (round worker workers)
  round_down lane none is =
      let e : worker - 0 ≡ worker = omega arith in
      is ∙ ap (λ n. find test (range_with_len 0 n)) e ∙ ap (λ o. option_or o (find test (range_with_len 0 worker))) none
      ∙ sym (find-append test (range_with_len worker (workers - worker)) (range_with_len 0 worker))

-- what is found in one of two lists is found in the first or in the second
found_in_two : {X : Type 0} (test : X → Bool) (xs ys : List X) (x : X) → find test (xs ++ ys) ≡ Some x → (find test xs ≡ Some x) ⊎ (find test ys ≡ Some x)
found_in_two {X} test xs ys x found = by (find test xs) refl
  where
    by : (first : Option X) → find test xs ≡ first → (find test xs ≡ Some x) ⊎ (find test ys ≡ Some x)
    by (Some y) e = inl (e ∙ sym (ap (λ o. option_or o (find test ys)) e) ∙ sym (find-append test xs ys) ∙ found)
    by None e = inr (sym (ap (λ o. option_or o (find test ys)) e) ∙ sym (find-append test xs ys) ∙ found)

-- what is found on the way round passes, and is one of the numbers
pub round_passes : (test : ℕ → Bool) (worker workers lane : ℕ) → worker < workers → find test (round worker workers) ≡ Some lane → (test lane ≡ true) × (lane < workers)
round_passes test worker workers lane inside found = elim (found_in_two test (range_with_len worker (workers - worker)) (range_with_len 0 worker) lane found) [
  | inl first ↦ let (passes, low, high) = found_passes test worker (workers - worker) lane first in (passes, omega arith)
  | inr second ↦ let (passes, low, high) = found_passes test 0 worker lane second in (passes, omega arith)
]
