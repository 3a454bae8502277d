-- What is no numeral, or is too great, is no number's text.
use Rattle.std.proofs.Common.{◌≡◌, false, ap, sym, subst, arith, rules}
use Rattle.std.specs.List.{list_all}
use Rattle.std.specs.Char.{is_ascii_digit}
use Rattle.std.specs.Str.Parse.{digits_value}
use Rattle.std.proofs.lemmas.Bool.{both_ways}
use Rattle.cr_model.specs.Texts.{IsNumeral}
use Rattle.cr_model.proofs.Numerals.{numeral_of, value_of_digits, value_of_number}
use Rattle.cr_audit.proofs.digits.number_of.Goals as goal

pub returns-then-not-is_plain-clause-none : goal.returns-then-not-is_plain-clause-none
returns-then-not-is_plain-clause-none c = λ n small is.
    let numeral : IsNumeral c.args.digits.now = subst IsNumeral (sym is) (numeral_of n small) in
    both_ways _ c.if-not-is_plain.true (c.is_plain.ensures.1 (numeral.some, numeral.few, numeral.plain))

pub returns-in_default-clause-none : goal.returns-in_default-clause-none
returns-in_default-clause-none c = λ n small is.
    let numeral : IsNumeral c.args.digits.now = subst IsNumeral (sym is) (numeral_of n small) in
    let none : list_all is_ascii_digit c.args.digits.now ≡ false = search rules in
    both_ways _ none numeral.all

pub returns-then-number-le-GREATEST-clause-some : goal.returns-then-number-le-GREATEST-clause-some
returns-then-number-le-GREATEST-clause-some c =
    let sum = c.in-Some.ensures.some in
    let plain = c.is_plain.ensures.0 c.if-not-is_plain.false in
    (omega arith, rw sum.1 (value_of_digits c.args.digits.now (record { some = plain.0; few = plain.1; plain = plain.2; all = sum.0 }) (omega (arith, sum.1))))

pub returns-else-number-le-GREATEST-clause-none : goal.returns-else-number-le-GREATEST-clause-none
returns-else-number-le-GREATEST-clause-none c = λ n small is.
    absurd (omega (arith, c.in-Some.ensures.some.1, ap (digits_value 10) is, value_of_number n small))
