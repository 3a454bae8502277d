-- Packed rows compare as the rows do.
use Rattle.std.specs.Prelude.{◌≡◌, ℕ, zero, suc, ◌+◌, ◌/◌, ◌%◌, ◌^◌, ◌<◌, true, ◌&&◌, List, [], ◌∷◌, ◌++◌, length, reverse, nat_eq, refl}
use Rattle.std.specs.Cmp.{nat_cmp_is}
use Rattle.std.specs.Cmp.Lexicographic.{slice_cmp, pointwise}
use Rattle.std.specs.Ordering.{nat_cmp, ordering_then, MatchOrdering}
use Rattle.std.specs.declared.cmp.Ordering.{Ordering}
use Rattle.std.specs.declared.cmp.Ordering.TheVariants.{Less, Equal, Greater}
use Rattle.std.proofs.Common.{ap, sym, ◌∙◌, arith}
use Rattle.std.proofs.lemmas.Bool.{and_parts, and_from, eqb-true, eq-eqb}
use Rattle.std.proofs.lemmas.Bool.Decides.{same_from_decides}
use Rattle.std.proofs.lemmas.Slice.Eq.{bytes_eq-Decides}
use Rattle.std.proofs.lemmas.Cmp.{ranked}
use Rattle.std.proofs.lemmas.List.{reverse-append, length-reverse}
use Rattle.cr_row.specs.Packed.{bells_of, bells_length, same_bits}
use Rattle.cr_row.specs.Order.{row_cmp}

then_equal : (o : Ordering) → ordering_then o Equal ≡ o
then_equal Less = refl
then_equal Equal = refl
then_equal Greater = refl

then_assoc : (a b c : Ordering) → ordering_then (ordering_then a b) c ≡ ordering_then a (ordering_then b c)
then_assoc Less b c = refl
then_assoc Equal b c = refl
then_assoc Greater b c = refl

first_decides : (o p q : Ordering) → (o ≡ Equal → p ≡ q) → ordering_then o p ≡ ordering_then o q
first_decides Less p q h = refl
first_decides Equal p q h = h refl
first_decides Greater p q h = refl

-- one more element at the end
cmp_push : (xs ys : List ℕ) (x y : ℕ) → length xs ≡ length ys
    → slice_cmp nat_cmp (xs ++ x ∷ []) (ys ++ y ∷ []) ≡ ordering_then (slice_cmp nat_cmp xs ys) (nat_cmp x y)
cmp_push [] [] x y e = then_equal (nat_cmp x y)
cmp_push [] (b ∷ ys) x y e = absurd (omega arith)
cmp_push (a ∷ xs) [] x y e = absurd (omega arith)
cmp_push (a ∷ xs) (b ∷ ys) x y e =
    ap (ordering_then (nat_cmp a b)) (cmp_push xs ys x y (omega arith)) ∙ sym (then_assoc (nat_cmp a b) (slice_cmp nat_cmp xs ys) (nat_cmp x y))

split_is : (x y : ℕ) (o p : Ordering) → MatchOrdering o (x / 16 < y / 16) (x / 16 ≡ y / 16) (y / 16 < x / 16)
    → MatchOrdering p (x % 16 + 1 < y % 16 + 1) (x % 16 + 1 ≡ y % 16 + 1) (y % 16 + 1 < x % 16 + 1)
    → MatchOrdering (ordering_then o p) (x < y) (x ≡ y) (y < x)
split_is x y Less p h g = omega arith
split_is x y Equal Less h g = omega arith
split_is x y Equal Equal h g = omega arith
split_is x y Equal Greater h g = omega arith
split_is x y Greater p h g = omega arith

nat_cmp_split : (x y : ℕ) → nat_cmp x y ≡ ordering_then (nat_cmp (x / 16) (y / 16)) (nat_cmp (x % 16 + 1) (y % 16 + 1))
nat_cmp_split x y =
    sym (nat_cmp_is x y (ordering_then (nat_cmp (x / 16) (y / 16)) (nat_cmp (x % 16 + 1) (y % 16 + 1)))
    (split_is x y (nat_cmp (x / 16) (y / 16)) (nat_cmp (x % 16 + 1) (y % 16 + 1)) (ranked (x / 16) (y / 16) (nat_cmp (x / 16) (y / 16)) refl) (ranked (x % 16 + 1) (y % 16 + 1) (nat_cmp (x % 16 + 1) (y % 16 + 1)) refl)))

-- as numbers, where they have one length
packed_cmp : (n x y : ℕ) → x < 16 ^ n → y < 16 ^ n
    → nat_cmp x y ≡ slice_cmp nat_cmp (reverse (bells_of n x)) (reverse (bells_of n y))
packed_cmp zero x y h g = sym (nat_cmp_is x y Equal (omega arith))
packed_cmp (suc n) x y h g =
    let long : length (reverse (bells_of n (x / 16))) ≡ length (reverse (bells_of n (y / 16))) =
    length-reverse (bells_of n (x / 16)) ∙ bells_length n (x / 16) ∙ sym (length-reverse (bells_of n (y / 16)) ∙ bells_length n (y / 16)) in
    nat_cmp_split x y ∙ ap (λ o. ordering_then o (nat_cmp (x % 16 + 1) (y % 16 + 1))) (packed_cmp n (x / 16) (y / 16) (omega arith) (omega arith))
    ∙ sym (cmp_push (reverse (bells_of n (x / 16))) (reverse (bells_of n (y / 16))) (x % 16 + 1) (y % 16 + 1) long)
    ∙ sym (λ i. slice_cmp nat_cmp (reverse-append ((x % 16 + 1) ∷ []) (bells_of n (x / 16)) i) (reverse-append ((y % 16 + 1) ∷ []) (bells_of n (y / 16)) i))

pub packed_row_cmp : (n m x y : ℕ) → x < 16 ^ n → y < 16 ^ m
    → ordering_then (nat_cmp n m) (nat_cmp x y) ≡ row_cmp (bells_of n x) (bells_of m y)
packed_row_cmp n m x y h g =
    first_decides (nat_cmp n m) (nat_cmp x y) (slice_cmp nat_cmp (reverse (bells_of n x)) (reverse (bells_of m y)))
    (λ e. let same : n ≡ m = ranked n m Equal (sym e) in
    packed_cmp n x y h (rw same g) ∙ ap (λ k. slice_cmp nat_cmp (reverse (bells_of n x)) (reverse (bells_of k y))) same)
    ∙ (λ i. ordering_then (nat_cmp (sym (bells_length n x) i) (sym (bells_length m y) i)) (slice_cmp nat_cmp (reverse (bells_of n x)) (reverse (bells_of m y))))

-- packed rows are equal where the rows are
pub packed_eq : (n m x y : ℕ) (a b : List ℕ) → x < 16 ^ n → y < 16 ^ m → bells_of n x ≡ a → bells_of m y ≡ b
    → (nat_eq x y && nat_eq n m) ≡ pointwise nat_eq a b
packed_eq n m x y a b h g seen other =
    let forth : (nat_eq x y && nat_eq n m) ≡ true → a ≡ b = λ e. (
    let parts = and_parts (nat_eq x y) (nat_eq n m) e in
    sym seen ∙ (λ i. bells_of (eqb-true n m parts.1 i) (eqb-true x y parts.0 i)) ∙ other) in
    let back : a ≡ b → (nat_eq x y && nat_eq n m) ≡ true = λ e. (
    let same = same_bits n m x y h g (seen ∙ e ∙ sym other) in
    and_from (nat_eq x y) (nat_eq n m) (eq-eqb x y same.0) (eq-eqb n m same.1)) in
    same_from_decides (nat_eq x y && nat_eq n m) (pointwise nat_eq a b) (forth, back) (bytes_eq-Decides a b)
