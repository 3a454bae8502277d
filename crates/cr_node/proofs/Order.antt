-- Prefixes and the lexicographic order.
use Rattle.std.proofs.Common.{◌≡◌, ℕ, ◌<◌, ◌↔◌, true, false, ◌&&◌, cond, nat_eq, List, [], ◌∷◌, inl, inr, refl, sym, ap, ap₂, ◌∙◌, subst}
use Rattle.std.specs.Bool.{IsTrue}
use Rattle.std.specs.Cmp.Lexicographic.{slice_cmp}
use Rattle.std.specs.List.{starts_with}
use Rattle.std.specs.Ordering.{nat_cmp, ordering_then, is_lt}
use Rattle.std.specs.declared.cmp.Ordering.{Ordering}
use Rattle.std.specs.declared.cmp.Ordering.TheVariants.{Less, Equal, Greater}
use Rattle.std.proofs.lemmas.Bool.{true≢false, false≢true, and_parts, and_from, cases_order, lt-ltb, eq-eqb, eqb-true}
use Rattle.std.proofs.lemmas.Cmp.{nat_cmp_total, tied_itself}
use Rattle.cr_model.specs.Nodes.{is_prefix}

-- what tests for Less
pub less_test : (answer : Ordering) → IsTrue (is_lt answer) ↔ (answer ≡ Less)
less_test Less = (λ h. refl, λ h. refl)
less_test Equal = (λ h. absurd (false≢true h), λ h. absurd (false≢true (ap is_lt h)))
less_test Greater = (λ h. absurd (false≢true h), λ h. absurd (false≢true (ap is_lt h)))

-- std's test for a beginning
pub prefix_test : (node steps : List ℕ) → starts_with nat_eq steps node ≡ is_prefix node steps
prefix_test [] steps = refl
prefix_test (x ∷ node) [] = refl
prefix_test (x ∷ node) (y ∷ steps) = ap (λ t. nat_eq x y && t) (prefix_test node steps)

cmp_less : (x y : ℕ) → x < y → nat_cmp x y ≡ Less
cmp_less x y h = ap (λ t. cond t Less (cond (nat_eq x y) Equal Greater)) (lt-ltb x y h)

cmp_equal : (x y : ℕ) → x ≡ y → nat_cmp x y ≡ Equal
cmp_equal x y h = ap (λ z. nat_cmp z y) h ∙ tied_itself nat_cmp_total y

-- of words that do not fall, the first steps do not fall either
first_not_less : (w x : ℕ) (rest : Ordering) → is_lt (ordering_then (nat_cmp w x) rest) ≡ false → w < x → ⊥
first_not_less w x rest h less = true≢false (ap (λ o. is_lt (ordering_then o rest)) (sym (cmp_less w x less)) ∙ h)

-- nor does the rest after equal steps
rest_not_less : (w x : ℕ) (rest : Ordering) → is_lt (ordering_then (nat_cmp w x) rest) ≡ false → w ≡ x → is_lt rest ≡ false
rest_not_less w x rest h same = ap (λ o. is_lt (ordering_then o rest)) (sym (cmp_equal w x same)) ∙ h

-- a word between a word and another that it begins is begun by it
pub between : (low word high : List ℕ) → is_prefix low high ≡ true → is_lt (slice_cmp nat_cmp word low) ≡ false
    → is_lt (slice_cmp nat_cmp high word) ≡ false → is_prefix low word ≡ true
between [] word high begins above below = refl
between (x ∷ low) word [] begins above below = absurd (false≢true begins)
between (x ∷ low) [] (z ∷ high) begins above below = absurd (true≢false above)
between (x ∷ low) (w ∷ word) (z ∷ high) begins above below =
    let both = and_parts (nat_eq x z) (is_prefix low high) begins in
    let same : x ≡ z = eqb-true x z both.0 in
    elim (cases_order w x) [
      | inl e ↦
          and_from (nat_eq x w) (is_prefix low word) (eq-eqb x w (sym e))
          (between low word high both.1 (rest_not_less w x (slice_cmp nat_cmp word low) above e) (rest_not_less z w (slice_cmp nat_cmp high word) below (sym same ∙ sym e)))
      | inr (inl less) ↦ absurd (first_not_less w x (slice_cmp nat_cmp word low) above less)
      | inr (inr more) ↦ absurd (first_not_less z w (slice_cmp nat_cmp high word) below (subst (λ (k : ℕ). k < w) same more))
    ]

-- a word that begins another and is not less is the other
pub same_word : (word other : List ℕ) → is_prefix word other ≡ true → is_lt (slice_cmp nat_cmp word other) ≡ false → word ≡ other
same_word [] [] begins h = refl
same_word [] (y ∷ other) begins h = absurd (true≢false h)
same_word (x ∷ word) [] begins h = absurd (false≢true begins)
same_word (x ∷ word) (y ∷ other) begins h =
    let both = and_parts (nat_eq x y) (is_prefix word other) begins in
    let same : x ≡ y = eqb-true x y both.0 in
    ap₂ ◌∷◌ same (same_word word other both.1 (rest_not_less x y (slice_cmp nat_cmp word other) h same))
