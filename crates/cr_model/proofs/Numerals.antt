-- Decimal texts.
use Rattle.std.proofs.Common.{◌≡◌, ℕ, ◌+◌, ◌*◌, ◌-◌, ◌^◌, ◌<◌, ◌≤◌, inl, inr, true, List, length, get_or, take, decimal, sym, ap, rules, arith}
use Rattle.std.specs.List.{list_all}
use Rattle.std.specs.Char.{is_ascii_digit, digit_value}
use Rattle.std.specs.Str.Parse.{digits_value, AllDigits}
use Rattle.std.proofs.lemmas.Bool.{cases_lt}
use Rattle.std.proofs.lemmas.Bool.Decides.{nat_tests}
use Rattle.std.proofs.Math.Nat.{pow-le-pow_right}
use Rattle.std.proofs.lemmas.Int.Digits.{digits_value_more, digits_value-lt}
use Rattle.std.proofs.lemmas.Str.Parse.{IsNumeralModel, numerals_by_value, digits_value-take-le, digit_at}
use Rattle.std.proofs.lemmas.Fmt.{decimal_nonempty, length-decimal-le, first_decimal, digits_decimal, digits_value-decimal, decimal-digits_value, decimal_digit}
use Rattle.cr_model.specs.Texts.{IsNumber, IsNumeral}

pub own : IsNumeralModel (λ ds. list_all is_ascii_digit ds ≡ true) (digits_value 10)
own = numerals_by_value (λ ds. list_all is_ascii_digit ds ≡ true) (search rules)

-- digits that are not too many are below 2^64, and so is the number of their first
pub fits_so_far : (digits : List ℕ) (i : ℕ) → IsNumeral digits → i < length digits
    → digits_value 10 (take i digits) * 10 + digit_value (get_or digits i 0) < 2 ^ 64
fits_so_far digits i is inside =
    let all : AllDigits 10 digits = own.to digits is.all in
    let whole : digits_value 10 digits < 10 ^ length digits = digits_value-lt 10 digits all in
    let few : 10 ^ length digits ≤ 10 ^ 19 = pow-le-pow_right {n = 10} (omega arith) {i = length digits} {j = 19} is.few in
    omega (arith, digits_value_more 10 digits i inside, digits_value-take-le 10 digits (i + 1) (omega arith))

value_at : (x : ℕ) → 48 ≤ x → x ≤ 57 → digit_value x ≡ x - 48
value_at x low high = grind (arith, nat_tests)

-- a digit's value
pub digit_is : (digits : List ℕ) (i : ℕ) → IsNumeral digits → i < length digits → (48 ≤ get_or digits i 0) × (get_or digits i 0 ≤ 57) × (digit_value (get_or digits i 0) ≡ get_or digits i 0 - 48)
digit_is digits i is inside =
    let range = digit_at digits i (own.to digits is.all) inside in
    (range.0, range.1, value_at (get_or digits i 0) range.0 range.1)

-- only 0 begins with the digit 0
plain_number : (n : ℕ) → IsNumber n → get_or (decimal n) 0 0 ≡ 48 → length (decimal n) ≡ 1
plain_number n small nought = elim (cases_lt 0 n) [
  | inl some ↦ absurd (omega (arith, first_decimal n some (omega arith), nought))
  | inr none ↦ ap length (decimal_digit n (omega arith))
]

-- the digits of a number
pub numeral_of : (n : ℕ) → IsNumber n → IsNumeral (decimal n)
numeral_of n small = record {
  some = decimal_nonempty n (omega arith);
  few = length-decimal-le 19 n (omega arith) (omega arith) (omega arith);
  plain = plain_number n small;
  all = digits_decimal own n (omega arith);
}

-- digits tell their number
pub value_of_digits : (digits : List ℕ) → IsNumeral digits → digits_value 10 digits < 2 ^ 64 → digits ≡ decimal (digits_value 10 digits)
value_of_digits digits is small = sym (decimal-digits_value own digits is.all is.some is.plain small)

pub value_of_number : (n : ℕ) → IsNumber n → digits_value 10 (decimal n) ≡ n
value_of_number n small = digits_value-decimal own n (omega arith)
