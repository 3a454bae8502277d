-- The line before a body: what a text may begin with.
use Rattle.std.proofs.Common.{◌≡◌, ℕ, ◌+◌, ◌^◌, ◌<◌, ◌≤◌, inl, inr, Bool, true, false, List, [], ◌∷◌, ◌++◌, length, get_or, take, drop, decimal, refl, sym, ap, ◌∙◌, arith}
use Rattle.std.proofs.Common.{append_assoc}
use Rattle.std.specs.Prelude.{codes, ◌&&◌}
use Rattle.std.specs.List.{list_all}
use Rattle.std.specs.Char.{is_ascii_digit}
use Rattle.std.specs.Str.Parse.{digits_value}
use Rattle.std.proofs.lemmas.Bool.{cases_lt}
use Rattle.std.proofs.lemmas.List.{take-append-drop, length-take-le, length-drop, get_or-take}
use Rattle.std.proofs.lemmas.List.Folds.{list_all-append}
use Rattle.std.proofs.lemmas.Str.Parse.{digits_value-take-le}
use Rattle.std.proofs.lemmas.Fmt.{first_decimal, digits_decimal, digits_value-decimal, decimal-digits_value, decimal_digit}
use Rattle.cr_model.proofs.Numerals.{own}
use Rattle.cr_store.specs.Blocks.{block, IsSize, IsTorn}

abbrev pub word : List ℕ
word = codes "block "

-- a block's parts
pub block_is : (body : List ℕ) → block body ≡ word ++ (decimal (length body) ++ 10 ∷ body)
block_is body = ap (λ x. word ++ x) (append_assoc (decimal (length body)) (10 ∷ []) body)

-- the front of a block that is cut
pub cut_torn : (k : ℕ) (body : List ℕ) → IsSize (length body) → k < length (block body) → IsTorn (take k (block body))
cut_torn k body size inside = record {
  body = body;
  size = size;
  rest = drop k (block body);
  some = omega (arith, length-drop k (block body), inside);
  is = sym (take-append-drop k (block body));
}

and_left : (a b : Bool) → (a && b) ≡ true → a ≡ true
and_left true b both = refl
and_left false b both = both

digits_of_front : (k : ℕ) (ds : List ℕ) → list_all is_ascii_digit ds ≡ true → list_all is_ascii_digit (take k ds) ≡ true
digits_of_front k ds all = and_left (list_all is_ascii_digit (take k ds)) (list_all is_ascii_digit (drop k ds))
    (sym (list_all-append is_ascii_digit (take k ds) (drop k ds)) ∙ ap (list_all is_ascii_digit) (take-append-drop k ds) ∙ all)

-- a front of the digits of a size is the digits of a size
pub front_of_size : (m k : ℕ) → IsSize m → 1 ≤ k → k ≤ length (decimal m) → (n : ℕ) × IsSize n × (take k (decimal m) ≡ decimal n)
front_of_size m k size some inside = (value, (nonzero, fits), sym is)
  where
    front : List ℕ
    front = take k (decimal m)

    value : ℕ
    value = digits_value 10 front

    all : list_all is_ascii_digit front ≡ true
    all = digits_of_front k (decimal m) (digits_decimal own m (omega (arith, size.1)))

    small : value ≤ m
    small = omega (arith, digits_value-take-le 10 (decimal m) k (omega arith), digits_value-decimal own m (omega (arith, size.1)))

    fits : value < 2 ^ 63
    fits = omega (arith, small, size.1)

    many : length front ≡ k
    many = length-take-le k (decimal m) inside

    first : 48 < get_or front 0 0
    first = omega (arith, get_or-take k (decimal m) 0 0 (omega (arith, some)), first_decimal m size.0 (omega (arith, size.1)))

    is : decimal value ≡ front
    is = decimal-digits_value own front all (omega (arith, many, some)) (λ nought. absurd (omega (arith, first, nought))) (omega (arith, fits))

    nonzero : 0 < value
    nonzero = elim (cases_lt 0 value) [
      | inl more ↦ more
      | inr none ↦
          let digit : decimal value ≡ (48 + value) ∷ [] = decimal_digit value (omega (arith, none)) in
          let begins : get_or front 0 0 ≡ 48 + value = ap (λ x. get_or x 0 0) (sym is ∙ digit) in
          absurd (omega (arith, begins, first, none))
    ]
