-- Limits of all parts together, as limits of one.
use Rattle.std.proofs.Common.{◌≡◌, ℕ, suc, ◌+◌, ◌*◌, ◌/◌, ◌<◌, ◌≤◌, ◌↔◌, Bool, true, false, cond, ℤ, pos, negsuc, ◌≤ℤ◌, int_lt, nat_lt, nat_le, inl, inr, refl, sym, ap, ◌∙◌, arith, ltb-true, le-ltb, lt-ltb, leb-true, le-leb}
use Rattle.std.proofs.lemmas.Bool.{cases_lt}
use Rattle.std.proofs.Math.Nat.{div-lt_iff_lt-mul, mul-le-mul_right, lt_of_mul-lt-mul_right, mul_comm}
use Rattle.std.proofs.lemmas.Grind.{div_ceil_times}
use Rattle.std.proofs.lemmas.Int.{ints}
use Rattle.std.specs.Int.{div_ceil}
use Rattle.cr_model.specs.Queries.{IsWithin}
use Rattle.cr_query.specs.Gauges.{fewest, too_many}

-- two tests that tell the same are one
same_test : (a b : Bool) → (a ≡ true → b ≡ true) → (b ≡ true → a ≡ true) → a ≡ b
same_test true b to from = sym (to refl)
same_test false true to from = from refl
same_test false false to from = refl

-- a share rounded up
below_share : (parts m n : ℕ) → 1 ≤ parts → (n < div_ceil m parts) ↔ (parts * n < m)
below_share parts m n some =
    let bounds = div_ceil_times m parts (omega (arith, some)) in
    let share = div_ceil m parts in
    let turned : parts * n ≡ n * parts = mul_comm parts n in (
      λ below.
          let more : suc n * parts ≤ share * parts = mul-le-mul_right parts (omega (arith, below)) in
          omega (arith, more, bounds.1, turned),
      λ below.
          let less : n * parts < share * parts = omega (arith, below, bounds.0, turned) in
          lt_of_mul-lt-mul_right parts less,
    )

-- a share rounded down
above_share : (parts m n : ℕ) → 1 ≤ parts → (m / parts < n) ↔ (m < parts * n)
above_share parts m n some =
    let is = div-lt_iff_lt-mul {k = parts} {x = m} {y = n} (omega (arith, some)) in
    let turned : parts * n ≡ n * parts = mul_comm parts n in
    (λ above. omega (arith, turned, is.0 above), λ above. is.1 (omega (arith, turned, above)))

-- a part has fewer than the fewest where all have fewer together than the least
pub fewest_is : (parts : ℕ) (least : ℤ) (n : ℕ) → 1 ≤ parts → nat_lt n (fewest parts least) ≡ int_lt (pos (parts * n)) least
fewest_is parts (pos m) n some =
    ap (λ b. nat_lt n (cond b 0 (div_ceil m parts))) (le-ltb m 0 (omega arith))
    ∙ same_test (nat_lt n (div_ceil m parts)) (nat_lt (parts * n) m)
    (λ h. lt-ltb (parts * n) m ((below_share parts m n some).0 (ltb-true n (div_ceil m parts) h)))
    (λ h. lt-ltb n (div_ceil m parts) ((below_share parts m n some).1 (ltb-true (parts * n) m h)))
fewest_is parts (negsuc m) n some = le-ltb n 0 (omega arith)

-- and too many where all have more than the greatest
pub too_many_is : (parts : ℕ) (greatest : ℤ) (n : ℕ) → 1 ≤ parts → nat_le (too_many parts greatest) n ≡ int_lt greatest (pos (parts * n))
too_many_is parts (pos m) n some =
    ap (λ b. nat_le (cond b 0 (m / parts + 1)) n) (le-ltb m 0 (omega arith))
    ∙ same_test (nat_le (m / parts + 1) n) (nat_lt m (parts * n))
    (λ h. let above : m / parts + 1 ≤ n = leb-true (m / parts + 1) n h in lt-ltb m (parts * n) ((above_share parts m n some).0 (omega (arith, above))))
    (λ h. let above : m / parts < n = (above_share parts m n some).1 (ltb-true m (parts * n) h) in le-leb (m / parts + 1) n (omega (arith, above)))
too_many_is parts (negsuc m) n some = le-leb 0 n (omega arith)

-- so a part is within its limits where all are so together
fewest_within : (parts : ℕ) (least : ℤ) (n : ℕ) → 1 ≤ parts → (fewest parts least ≤ n) ↔ (least ≤ℤ pos (parts * n))
fewest_within parts (pos m) n some =
    let not_less : int_lt (pos m) (pos 0) ≡ false = le-ltb m 0 (omega arith) in
    let is : fewest parts (pos m) ≡ div_ceil m parts = ap (λ b. cond b 0 (div_ceil m parts)) not_less in
    let share = below_share parts m n some in (
      λ h. elim (cases_lt (parts * n) m) [
        | inl less ↦ absurd (omega (arith, is, h, share.1 less))
        | inr more ↦ omega (arith, ints, more)
      ],
      λ h.
          let more : m ≤ parts * n = omega (arith, ints, h) in
          elim (cases_lt n (div_ceil m parts)) [
            | inl less ↦ absurd (omega (arith, more, share.0 less))
            | inr enough ↦ omega (arith, is, enough)
          ],
    )
fewest_within parts (negsuc m) n some = (λ h. omega (arith, ints), λ h. omega arith)

too_many_within : (parts : ℕ) (greatest : ℤ) (n : ℕ) → 1 ≤ parts → (n < too_many parts greatest) ↔ (pos (parts * n) ≤ℤ greatest)
too_many_within parts (pos m) n some =
    let not_less : int_lt (pos m) (pos 0) ≡ false = le-ltb m 0 (omega arith) in
    let is : too_many parts (pos m) ≡ m / parts + 1 = ap (λ b. cond b 0 (m / parts + 1)) not_less in
    let share = above_share parts m n some in (
      λ h. elim (cases_lt m (parts * n)) [
        | inl less ↦ absurd (omega (arith, is, h, share.1 less))
        | inr more ↦ omega (arith, ints, more)
      ],
      λ h.
          let more : parts * n ≤ m = omega (arith, ints, h) in
          elim (cases_lt (m / parts) n) [
            | inl less ↦ absurd (omega (arith, more, share.0 less))
            | inr enough ↦ omega (arith, is, enough)
          ],
    )
too_many_within parts (negsuc m) n some = (λ h. absurd (omega (arith, h)), λ h. absurd (omega (arith, ints, h)))

pub within_is : (parts : ℕ) (least greatest : ℤ) (n : ℕ) → 1 ≤ parts → ((fewest parts least ≤ n) × (n < too_many parts greatest)) ↔ IsWithin least greatest (parts * n)
within_is parts least greatest n some = (
  λ h. record { at_least = (fewest_within parts least n some).0 h.0; at_most = (too_many_within parts greatest n some).0 h.1 },
  λ h. ((fewest_within parts least n some).1 h.at_least, (too_many_within parts greatest n some).1 h.at_most),
)
