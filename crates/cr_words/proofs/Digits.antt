-- Texts of digits, as `parse` reads them.
use Rattle.std.proofs.Common.{◌≡◌, ◌∙◌, ap, sym, arith, rules, ℕ, ◌<◌, ◌≤◌, Bool, true, false, ◌&&◌, cond, List, length, Some, None, nat_le}
use Rattle.std.specs.Prelude.{◌^◌, Result}
use Rattle.std.specs.Result.{result_ok}
use Rattle.std.specs.Str.{all_ascii_digits}
use Rattle.std.specs.Str.Parse.{digits_value, ParsesUnsigned}
use Rattle.std.proofs.lemmas.Bool.{leb-true}
use Rattle.std.proofs.lemmas.Str.Parse.{IsNumeralModel, numerals_by_value, tells_all_ascii_digits, digits_value_short, parse_gives}
use Rattle.cr_words.specs.Numbers.{is_number, number_of}

own : IsNumeralModel (λ ds. all_ascii_digits ds ≡ true) (digits_value 10)
own = numerals_by_value (λ ds. all_ascii_digits ds ≡ true) tells_all_ascii_digits

pub parsed_is : {E : Type 0} (text : List ℕ) (r : Result ℕ E) → is_number text ≡ true → ParsesUnsigned 64 10 text r → result_ok r ≡ number_of text
unfolding number_of
parsed_is text r is parses =
    let parts : (nat_le 1 (length text) ≡ true) × (nat_le (length text) 19 ≡ true) × (all_ascii_digits text ≡ true) = all_three _ _ _ is in
    let some : 1 ≤ length text = leb-true 1 (length text) parts.0 in
    let few : length text ≤ 19 = leb-true (length text) 19 parts.1 in
    let short : digits_value 10 text < 10 ^ 19 = digits_value_short own text 19 parts.2 few in
    let small : digits_value 10 text < 2 ^ 64 = omega (arith, short) in
    ap result_ok (parse_gives own 64 text r parses parts.2 some small) ∙ ap (λ b. cond b (Some (digits_value 10 text)) None) (sym is)
  where
    all_three : (a b c : Bool) → (a && (b && c)) ≡ true → (a ≡ true) × (b ≡ true) × (c ≡ true)
    all_three a b c e = search rules

pub not_number : (text : List ℕ) → is_number text ≡ false → None ≡ number_of text
unfolding number_of
not_number text is = ap (λ b. cond b (Some (digits_value 10 text)) None) (sym is)
