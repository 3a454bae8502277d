-- Digits, one after another.
use Rattle.std.proofs.Common.{◌≡◌, ℕ, ◌+◌, ◌-◌, ◌*◌, ◌^◌, ◌<◌, ◌≤◌, true, List, length, get_or, take, sym, ap, ◌∙◌, arith}
use Rattle.std.specs.List.{list_all}
use Rattle.std.specs.Char.{is_ascii_digit, digit_value}
use Rattle.std.specs.Str.Parse.{digits_value, AllDigits}
use Rattle.std.proofs.Math.Nat.{pow-le-pow_right}
use Rattle.std.proofs.lemmas.Bool.Decides.{nat_tests}
use Rattle.std.proofs.lemmas.List.{length-take-le}
use Rattle.std.proofs.lemmas.Int.Digits.{digits_value_more, digits_value-lt}
use Rattle.cr_model.proofs.Numerals.{own}

-- a digit's range and its value
pub digit_range : (x : ℕ) → is_ascii_digit x ≡ true → (48 ≤ x) × (x ≤ 57)
digit_range x is = grind (arith, nat_tests)

pub digit_is : (x : ℕ) → 48 ≤ x → x ≤ 57 → digit_value x ≡ x - 48
digit_is x low high = grind (arith, nat_tests)

-- fewer than 19 of them
pub sum_fits : (digits : List ℕ) (i : ℕ) → length digits ≤ 19 → i < length digits → list_all is_ascii_digit (take i digits) ≡ true
    → digits_value 10 (take i digits) < 10 ^ 18
sum_fits digits i few inside all =
    let long : length (take i digits) ≡ i = length-take-le i digits (omega arith) in
    let less : digits_value 10 (take i digits) < 10 ^ length (take i digits) = digits_value-lt 10 (take i digits) (own.to (take i digits) all) in
    let most : 10 ^ length (take i digits) ≤ 10 ^ 18 = pow-le-pow_right {n = 10} (omega arith) {i = length (take i digits)} {j = 18} (omega arith) in
    omega (arith, less, most)
