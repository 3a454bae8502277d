-- Each digit is added behind those before, and the sum of all of them is below 2^64.
use Rattle.std.proofs.Common.{◌≡◌, ℕ, ◌<◌, ◌^◌, true, take, get_or, sym, ap, ◌∙◌, arith}
use Rattle.std.specs.Char.{is_ascii_digit}
use Rattle.std.specs.Str.Parse.{digits_value}
use Rattle.std.proofs.lemmas.Bool.{and_from}
use Rattle.std.proofs.lemmas.Int.Digits.{digits_value_more}
use Rattle.std.proofs.lemmas.List.Folds.{list_all_more}
use Rattle.cr_audit.proofs.Sums.{sum_fits, digit_range, digit_is}
use Rattle.cr_audit.proofs.digits.sum_of.Goals as goal

pub overflow_mul-sum : goal.overflow_mul-sum
overflow_mul-sum c =
    omega (arith, c.loop-byte.invariant.sum, sum_fits c.args.digits.now c.loop-byte.byte-index c.requires c.loop-byte-test.true c.loop-byte.invariant.all)

pub overflow_add-sum : goal.overflow_add-sum
overflow_add-sum c =
    let digit : is_ascii_digit (get_or c.args.digits.now c.loop-byte.byte-index 0) ≡ true = sym c.is_ascii_digit.ensures.value ∙ c.if-not-is_ascii_digit.false in
    let range = digit_range (get_or c.args.digits.now c.loop-byte.byte-index 0) digit in
    omega (arith, c.loop-byte.invariant.sum, c.from.ensures, range.0, range.1, sum_fits c.args.digits.now c.loop-byte.byte-index c.requires c.loop-byte-test.true c.loop-byte.invariant.all)

pub loop-byte-preserved : goal.loop-byte-preserved
loop-byte-preserved c =
    let digits = c.args.digits.now in
    let index = c.loop-byte.byte-index in
    let digit : is_ascii_digit (get_or digits index 0) ≡ true = sym c.is_ascii_digit.ensures.value ∙ c.if-not-is_ascii_digit.false in
    let range = digit_range (get_or digits index 0) digit in
    record {
      all = list_all_more is_ascii_digit digits index 0 c.loop-byte-test.true ∙ and_from _ _ c.loop-byte.invariant.all digit;
      sum = omega (arith, c.loop-byte.invariant.sum, c.from.ensures, digits_value_more 10 digits index c.loop-byte-test.true, digit_is (get_or digits index 0) range.0 range.1);
    }
