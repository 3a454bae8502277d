-- Each list has its elements in order.
use Rattle.std.proofs.Common.{◌≡◌, zero, suc, ◌+◌, Bool, true, false, cond, List, [], ◌∷◌, get_or, refl, sym, ap, ◌∙◌, subst, arith}
use Rattle.std.specs.List.Sorted.{IsPermutation, IsSorted}
use Rattle.std.specs.Ordering.{is_lt, ordering_reverse}
use Rattle.std.specs.declared.cmp.Ordering.{Ordering}
use Rattle.std.specs.declared.cmp.Ordering.TheVariants.{Less, Equal, Greater}
use Rattle.std.proofs.lemmas.List.Sorted.{IsPermutation-refl, IsPermutation-cons, IsPermutation-swap, IsPermutation-trans}

module _ {X : Type 0} (R : X → X → Ordering) (turned : (x y : X) → R x y ≡ ordering_reverse (R y x)) where
  abbrev put : X → List X → List X
  put x [] = x ∷ []
  put x (y ∷ ys) = cond (is_lt (R y x)) (y ∷ put x ys) (x ∷ y ∷ ys)

  abbrev in_order : List X → List X
  in_order [] = []
  in_order (x ∷ xs) = put x (in_order xs)

  -- what stands first is not before the element
  abbrev Below : X → List X → Type 0
  Below y [] = Unit {0}
  Below y (z ∷ zs) = is_lt (R z y) ≡ false

  not_both : (x y : X) → is_lt (R y x) ≡ true → is_lt (R x y) ≡ false
  not_both x y less = by (R y x) refl less
    where
      by : (answer : Ordering) → R y x ≡ answer → is_lt answer ≡ true → is_lt (R x y) ≡ false
      by Less is less = ap is_lt (turned x y ∙ ap ordering_reverse is)
      by Equal is less = absurd (cc)
      by Greater is less = absurd (cc)

  sorted_cons : (y : X) (zs : List X) → Below y zs → IsSorted R zs → IsSorted R (y ∷ zs)
  sorted_cons y [] below up k d low inside = absurd (omega (arith, inside))
  sorted_cons y (z ∷ zs) below up zero d low inside = below
  sorted_cons y (z ∷ zs) below up (suc k) d low inside =
      let next : suc k + 1 ≡ suc (k + 1) = omega arith in
      subst (λ n. is_lt (R (get_or (y ∷ z ∷ zs) n d) (get_or (z ∷ zs) k d)) ≡ false) (sym next) (up k d (omega arith) (omega (arith, inside)))

  sorted_tail : (y : X) (zs : List X) → IsSorted R (y ∷ zs) → IsSorted R zs
  sorted_tail y zs up k d low inside =
      let next : suc k + 1 ≡ suc (k + 1) = omega arith in
      subst (λ n. is_lt (R (get_or (y ∷ zs) n d) (get_or zs k d)) ≡ false) next (up (suc k) d (omega arith) (omega (arith, inside)))

  sorted_head : (y : X) (zs : List X) → IsSorted R (y ∷ zs) → Below y zs
  sorted_head y [] up = tt
  sorted_head y (z ∷ zs) up = up 0 y (omega arith) (omega arith)

  below_put : (x y : X) (ys : List X) → is_lt (R x y) ≡ false → Below y ys → Below y (put x ys)
  below_put x y [] last below = last
  below_put x y (z ∷ zs) last below = by (is_lt (R z x))
    where
      by : (b : Bool) → Below y (cond b (z ∷ put x zs) (x ∷ z ∷ zs))
      by true = below
      by false = last

  put_sorted : (x : X) (ys : List X) → IsSorted R ys → IsSorted R (put x ys)
  put_sorted x [] up = sorted_cons x [] tt up
  put_sorted x (y ∷ ys) up = by (is_lt (R y x)) refl (put_sorted x ys (sorted_tail y ys up))
    where
      by : (b : Bool) → is_lt (R y x) ≡ b → IsSorted R (put x ys) → IsSorted R (cond b (y ∷ put x ys) (x ∷ y ∷ ys))
      by true is later = sorted_cons y (put x ys) (below_put x y ys (not_both x y is) (sorted_head y ys up)) later
      by false is later = sorted_cons x (y ∷ ys) is up

  put_same : (x : X) (ys : List X) → IsPermutation (x ∷ ys) (put x ys)
  put_same x [] = IsPermutation-refl (x ∷ [])
  put_same x (y ∷ ys) = by (is_lt (R y x)) (put_same x ys)
    where
      by : (b : Bool) → IsPermutation (x ∷ ys) (put x ys) → IsPermutation (x ∷ y ∷ ys) (cond b (y ∷ put x ys) (x ∷ y ∷ ys))
      by true later = IsPermutation-trans (x ∷ y ∷ ys) (y ∷ x ∷ ys) (y ∷ put x ys)
          (IsPermutation-swap (x ∷ y ∷ ys) (y ∷ x ∷ ys) 0 1 (omega arith) (omega arith) refl)
          (IsPermutation-cons y (x ∷ ys) (put x ys) later)
      by false later = IsPermutation-refl (x ∷ y ∷ ys)

  order_same : (xs : List X) → IsPermutation xs (in_order xs)
  order_same [] = IsPermutation-refl []
  order_same (x ∷ xs) = IsPermutation-trans (x ∷ xs) (x ∷ in_order xs) (put x (in_order xs))
      (IsPermutation-cons x xs (in_order xs) (order_same xs)) (put_same x (in_order xs))

  order_sorted : (xs : List X) → IsSorted R (in_order xs)
  order_sorted [] = λ k d low inside. absurd (omega (arith, inside))
  order_sorted (x ∷ xs) = put_sorted x (in_order xs) (order_sorted xs)

  pub sorted_of : (xs : List X) → (ys : List X) × IsPermutation xs ys × IsSorted R ys
  sorted_of xs = (in_order xs, order_same xs, order_sorted xs)
