-- Sets of steps, a bit for each.
use Rattle.std.proofs.Common.{◌≡◌, ◌≢◌, ℕ, zero, suc, ◌+◌, ◌-◌, ◌*◌, ◌%◌, ◌^◌, ◌<◌, ◌≤◌, Bool, true, false, cond, ◌||◌, max, min, nat_eq, refl, sym, ap, ap₂, subst, ◌∙◌, inl, inr, arith}
use Rattle.std.specs.Int.{bit_at, w32}
use Rattle.std.specs.Int.RustNames.{bit_or, bit_and}
use Rattle.std.specs.Int.Bits.{bit_xor}
use Rattle.std.proofs.lemmas.Bool.{cases_eq}
use Rattle.std.proofs.lemmas.Nat.{pow_below}
use Rattle.std.proofs.lemmas.Nat.Bits.{bit_at-zero, bit_at-lt, bit_at_and, bit_at_ones, bit_at_ones_above, bit_at_or, bit_at_xor, bit_at_set_same, bit_at_set_other}
use Rattle.cr_query.specs.Sets.{has_step, put, steps_of}

bits_or : (a b : ℕ) → a < 2 → b < 2 → nat_eq (max a b) 1 ≡ (nat_eq a 1 || nat_eq b 1)
bits_or zero zero low high = refl
bits_or zero (suc zero) low high = refl
bits_or zero (suc (suc b)) low high = absurd (omega (arith, high))
bits_or (suc zero) zero low high = refl
bits_or (suc zero) (suc zero) low high = refl
bits_or (suc zero) (suc (suc b)) low high = absurd (omega (arith, high))
bits_or (suc (suc a)) b low high = absurd (omega (arith, low))

bits_flip : (a : ℕ) → a < 2 → nat_eq ((a + 1) % 2) 1 ≡ cond (nat_eq a 1) false true
bits_flip zero low = refl
bits_flip (suc zero) low = refl
bits_flip (suc (suc a)) low = absurd (omega (arith, low))

-- the steps of both, and of neither
pub joined_is : (set other step : ℕ) → has_step (bit_or set other) step ≡ (has_step set step || has_step other step)
joined_is set other step = ap (λ n. nat_eq n 1) (bit_at_or set other step) ∙ bits_or (bit_at set step) (bit_at other step) (bit_at-lt set step) (bit_at-lt other step)

pub others_are : (set step : ℕ) → step < 32 → has_step (bit_xor set (2 ^ 32 - 1)) step ≡ cond (has_step set step) false true
others_are set step low =
    ap (λ n. nat_eq n 1) (bit_at_xor set (2 ^ 32 - 1) step ∙ ap (λ n. (bit_at set step + n) % 2) (bit_at_ones 32 step low))
    ∙ bits_flip (bit_at set step) (bit_at-lt set step)

pub none_has : (step : ℕ) → has_step 0 step ≡ false
none_has step = ap (λ n. nat_eq n 1) (bit_at-zero step)

-- a set that is asked for or not
asked_is : (set step : ℕ) (asked : Bool) → has_step (cond asked set 0) step ≡ cond asked (has_step set step) false
asked_is set step true = refl
asked_is set step false = none_has step

chosen : (here other inside outside : Bool) → other ≡ cond here false true → (cond inside here false || cond outside other false) ≡ cond here inside outside
chosen here other inside outside is = subst (λ o. (cond inside here false || cond outside o false) ≡ cond here inside outside) (sym is) (by here inside outside)
  where
    by : (here inside outside : Bool) → (cond inside here false || cond outside (cond here false true) false) ≡ cond here inside outside
    by true true outside = refl
    by true false true = refl
    by true false false = refl
    by false true true = refl
    by false true false = refl
    by false false true = refl
    by false false false = refl

pub where_is : (set other step : ℕ) (inside outside : Bool) → has_step other step ≡ cond (has_step set step) false true
    → (has_step (cond inside set 0) step || has_step (cond outside other 0) step) ≡ cond (has_step set step) inside outside
where_is set other step inside outside is =
    ap₂ (λ a b. a || b) (asked_is set step inside) (asked_is other step outside)
    ∙ chosen (has_step set step) (has_step other step) inside outside is

-- a set with nothing more
nothing_more : (set step i : ℕ) → bit_at (bit_or set (0 * 2 ^ step % 2 ^ 32)) i ≡ bit_at set i
nothing_more set step i =
    let nothing : 0 * 2 ^ step % 2 ^ 32 ≡ 0 = omega arith in
    ap (λ n. bit_at (bit_or set n) i) nothing
    ∙ bit_at_or set 0 i ∙ ap (max (bit_at set i)) (bit_at-zero i) ∙ max_zero (bit_at set i)
  where
    max_zero : (n : ℕ) → max n 0 ≡ n
    max_zero n = omega arith

put_is : (set step : ℕ) → step < 32 → (is_in : Bool) → has_step set step ≡ false → has_step (put set step is_in) step ≡ is_in
put_is set step low true new = ap (λ b. nat_eq b 1) (bit_at_set_same w32 set step low)
put_is set step low false new = ap (λ b. nat_eq b 1) (nothing_more set step step) ∙ new

put_others : (set step : ℕ) → step < 32 → (is_in : Bool) (other : ℕ) → other ≢ step → has_step (put set step is_in) other ≡ has_step set other
put_others set step low true other differs = ap (λ b. nat_eq b 1) (bit_at_set_other w32 set step low other differs)
put_others set step low false other differs = ap (λ b. nat_eq b 1) (nothing_more set step other)

-- the steps that pass a test
record AreSteps (test : ℕ → Bool) (number set : ℕ) : Type 0 where
  have : (step : ℕ) → step < number → has_step set step ≡ test step
  free : (step : ℕ) → number ≤ step → has_step set step ≡ false

module _ (test : ℕ → Bool) where
  one_more : (number set : ℕ) → number < 32 → AreSteps test number set → AreSteps test (suc number) (put set number (test number))
  one_more number set low are = record {
    have = λ step below. elim (cases_eq step number) [
      | inl same ↦ subst (λ s. has_step (put set number (test number)) s ≡ test s) (sym same) (put_is set number low (test number) (are.free number (omega arith)))
      | inr other ↦ put_others set number low (test number) step other ∙ are.have step (omega (arith, below, other))
    ];
    free = λ step high. put_others set number low (test number) step (λ same. absurd (omega (arith, same, high))) ∙ are.free step (omega (arith, high));
  }

  all_steps : (number : ℕ) → number ≤ 32 → AreSteps test number (steps_of test number)
  unfolding steps_of
  all_steps zero low = record { have = λ step below. absurd (omega (arith, below)); free = λ step _. none_has step }
  all_steps (suc number) low = one_more number (steps_of test number) (omega (arith, low)) (all_steps number (omega (arith, low)))

pub steps_are : (test : ℕ → Bool) (number step : ℕ) → number ≤ 32 → step < number → has_step (steps_of test number) step ≡ test step
steps_are test number step low inside = (all_steps test number low).have step inside

pub no_steps_beyond : (test : ℕ → Bool) (number step : ℕ) → number ≤ 32 → number ≤ step → has_step (steps_of test number) step ≡ false
no_steps_beyond test number step low beyond = (all_steps test number low).free step beyond

-- the bits below a number
pub mask_is : (number : ℕ) → number < 32 → 1 * 2 ^ number % 2 ^ 32 - 1 ≡ 2 ^ number - 1
mask_is number low =
    let small : 2 ^ number < 4294967296 = pow_below number 32 low in
    omega (arith, small)

module _ (set number mask : ℕ) (is : mask ≡ 2 ^ number - 1) where
  pub first_same : (step : ℕ) → step < number → has_step (bit_and set mask) step ≡ has_step set step
  first_same step below =
      let one : bit_at mask step ≡ 1 = ap (λ n. bit_at n step) is ∙ bit_at_ones number step below in
      let same : min (bit_at set step) 1 ≡ bit_at set step = omega (arith, bit_at-lt set step) in
      ap (λ n. nat_eq n 1) (bit_at_and set mask step ∙ ap (min (bit_at set step)) one ∙ same)

  pub none_beyond : (step : ℕ) → number ≤ step → has_step (bit_and set mask) step ≡ false
  none_beyond step beyond =
      let none : bit_at mask step ≡ 0 = ap (λ n. bit_at n step) is ∙ bit_at_ones_above number step beyond in
      let nothing : min (bit_at set step) 0 ≡ 0 = omega arith in
      ap (λ n. nat_eq n 1) (bit_at_and set mask step ∙ ap (min (bit_at set step)) none ∙ nothing)

-- the set so far, of a loop over the steps
pub no_steps : (test : ℕ → Bool) → 0 ≡ steps_of test 0
unfolding steps_of
no_steps test = refl

pub more_steps : (test : ℕ → Bool) (number set next : ℕ) → set ≡ steps_of test number → next ≡ put set number (test number) → next ≡ steps_of test (number + 1)
unfolding steps_of
more_steps test number set next is next_is =
    let same : suc number ≡ number + 1 = omega arith in
    next_is ∙ ap (λ n. put n number (test number)) is ∙ ap (steps_of test) same
