-- Sets of steps, a bit for each.
use Rattle.std.proofs.Common.{◌≡◌, ◌≢◌, ℕ, ◌+◌, ◌-◌, ◌*◌, ◌/◌, ◌%◌, ◌^◌, ◌<◌, ◌≤◌, Bool, true, false, max, nat_eq, sym, ap, subst, ◌∙◌, arith}
use Rattle.std.specs.Int.{bit_at, w32, trailing_zeros}
use mir.Val.{bool_byte}
use Rattle.std.specs.Int.RustNames.{bit_or}
use Rattle.std.proofs.lemmas.Nat.{shr-shr, shr_below, shl_whole, pow_pos}
use Rattle.std.proofs.lemmas.Nat.Bits.{bit_at-zero, bit_at_or, bit_at_set_same, bit_at_set_other, bit_at_cat_low, bit_at_cat_high, bit_at-trailing_zeros}
use Rattle.cr_query.specs.Sets.{has_step}
use Rattle.cr_query.specs.Sets.{IsLeast}

-- the set with nothing more
nothing_more : (set step i : ℕ) → bit_at (bit_or set (0 * 2 ^ step % 2 ^ 32)) i ≡ bit_at set i
nothing_more set step i =
    let nothing : 0 * 2 ^ step % 2 ^ 32 ≡ 0 = omega arith in
    ap (λ n. bit_at (bit_or set n) i) nothing
    ∙ bit_at_or set 0 i ∙ ap (max (bit_at set i)) (bit_at-zero i) ∙ max_zero (bit_at set i)
  where
    max_zero : (n : ℕ) → max n 0 ≡ n
    max_zero n = omega arith

module _ (set step : ℕ) (low : step < 32) where
  pub step_is : (is_in : Bool) → has_step set step ≡ false → has_step (bit_or set (bool_byte is_in * 2 ^ step % 2 ^ 32)) step ≡ is_in
  step_is true new = ap (λ b. nat_eq b 1) (bit_at_set_same w32 set step low)
  step_is false new = ap (λ b. nat_eq b 1) (nothing_more set step step) ∙ new

  pub others_stay : (is_in : Bool) (other : ℕ) → other ≢ step → has_step (bit_or set (bool_byte is_in * 2 ^ step % 2 ^ 32)) other ≡ has_step set other
  others_stay true other differs = ap (λ b. nat_eq b 1) (bit_at_set_other w32 set step low other differs)
  others_stay false other differs = ap (λ b. nat_eq b 1) (nothing_more set step other)

-- the set without the steps below one
module _ (set first : ℕ) (fits : set < 2 ^ 32) (low : first ≤ 31) where
  abbrev kept : ℕ
  kept = set / 2 ^ first

  cut_off : kept * 2 ^ first % 2 ^ 32 ≡ kept * 2 ^ first + 0
  cut_off =
      let same : 32 - first + first ≡ 32 = omega (arith, low) in
      shl_whole kept (32 - first) first 32 (shr_below set (32 - first) first (subst (λ n. set < 2 ^ n) (sym same) fits)) (omega (arith, same)) ∙ omega arith

  pub none_below : (step : ℕ) → step < first → has_step (kept * 2 ^ first % 2 ^ 32) step ≡ false
  none_below step below = ap (λ b. nat_eq b 1) (ap (λ n. bit_at n step) cut_off ∙ bit_at_cat_low kept first 0 step below ∙ bit_at-zero step)

  pub same_above : (step : ℕ) → first ≤ step → has_step (kept * 2 ^ first % 2 ^ 32) step ≡ has_step set step
  same_above step high =
      let same : first + (step - first) ≡ step = omega (arith, high) in
      ap (λ b. nat_eq b 1) (ap (λ n. bit_at n step) cut_off ∙ bit_at_cat_high kept first 0 step (pow_pos first) high ∙ ap (λ n. n % 2) (shr-shr set first (step - first)) ∙ ap (bit_at set) same)

-- a set that is 0 has no steps
pub none_of_zero : (set : ℕ) → set ≡ 0 → (step : ℕ) → has_step set step ≡ false
none_of_zero set zero_is step = ap (λ b. nat_eq b 1) (ap (λ n. bit_at n step) zero_is ∙ bit_at-zero step)

-- the least step of another one
pub least_of : (set : ℕ) → set < 2 ^ 32 → 0 < set → IsLeast set (trailing_zeros w32 set)
least_of set fits some =
    let found = bit_at-trailing_zeros w32 set some fits in
    record { few = found.0; is = ap (λ b. nat_eq b 1) found.1; before = λ other below. ap (λ b. nat_eq b 1) (found.2 other below) }
