-- Lists in strict order.
use Rattle.std.proofs.Common.{◌≡◌, ℕ, zero, suc, ◌<◌, ◌⊎◌, ◌↔◌, List, [], ◌∷◌, length, get_or, Contains, Ordering, Less, Greater, inl, inr, refl, sym, ap, ap₂, ◌∙◌, arith}
use Rattle.std.specs.Cmp.{IsTotalOrder}
use Rattle.std.specs.Ordering.{ordering_reverse}
use Rattle.std.specs.List.Sorted.{IsStrictlySortedBy}
use Rattle.std.proofs.lemmas.List.Elements.{All-from_recursion, All-contains}
use Rattle.std.proofs.lemmas.Map.Keys.{sorted_head, sorted_tail}

-- what a list with an element in front holds
pub contains_cases : {X : Type 0} (x z : X) (xs : List X) → Contains (x ∷ xs) z → (x ≡ z) ⊎ Contains xs z
contains_cases x z xs held = by held.0 held.1 held.2
  where
    by : (k : ℕ) → k < length (x ∷ xs) → get_or (x ∷ xs) k z ≡ z → (x ≡ z) ⊎ Contains xs z
    by zero h at = inl at
    by (suc k) h at = inr (k, omega arith, at)

-- what a list holds, it holds with an element in front
pub contains_more : {X : Type 0} (x z : X) (xs : List X) → Contains xs z → Contains (x ∷ xs) z
contains_more x z xs held = (suc held.0, (let h : held.0 < length xs = held.1 in omega arith), held.2)

-- the empty list holds nothing
pub none_held : {X : Type 0} (z : X) → Contains [] z → ⊥
none_held z held = let h : held.0 < 0 = held.1 in absurd (omega arith)

module _ {X : Type 0} {R : X → X → Ordering} (o : IsTotalOrder R) where
  -- no two elements are each below the other
  pub never_both : (x y : X) → R x y ≡ Less → R y x ≡ Less → ⊥
  never_both x y h g = let e : Less ≡ Greater = sym h ∙ o.antisymm x y ∙ ap ordering_reverse g in absurd (cc)

  -- no element is below itself
  pub never_itself : (x : X) → R x x ≡ Less → ⊥
  never_itself x h = never_both x x h h

  -- the first is below what is held after it
  less : (x z : X) (xs : List X) → IsStrictlySortedBy R (x ∷ xs) → Contains xs z → R x z ≡ Less
  less x z xs up held = All-contains (λ y. R x y ≡ Less) xs z (All-from_recursion (λ y. R x y ≡ Less) xs (sorted_head R x xs up)) held

  -- two first elements that each list holds are one
  same_heads : (x y : X) (xs ys : List X) → IsStrictlySortedBy R (x ∷ xs) → IsStrictlySortedBy R (y ∷ ys) → Contains (y ∷ ys) x → Contains (x ∷ xs) y → x ≡ y
  same_heads x y xs ys up above there here = elim (contains_cases y x ys there) [
    | inl e ↦ sym e
    | inr after ↦ elim (contains_cases x y xs here) [ inl e ↦ e | inr later ↦ absurd (never_both x y (less x y xs up later) (less y x ys above after)) ]
  ]

  -- what is held after the first is held after the other list's first
  in_tail : (x y z : X) (xs ys : List X) → IsStrictlySortedBy R (x ∷ xs) → x ≡ y → (Contains (x ∷ xs) z → Contains (y ∷ ys) z) → Contains xs z → Contains ys z
  in_tail x y z xs ys up e held later = elim (contains_cases y z ys (held (contains_more x z xs later))) [
    | inl at ↦ absurd (never_itself x (ap (R x) (e ∙ at) ∙ less x z xs up later))
    | inr after ↦ after
  ]

  -- two lists in strict order that hold the same are one
  pub same_from_sorted : (xs ys : List X) → IsStrictlySortedBy R xs → IsStrictlySortedBy R ys → ((z : X) → Contains xs z ↔ Contains ys z) → xs ≡ ys
  same_from_sorted [] [] up above same = refl
  same_from_sorted [] (y ∷ ys) up above same = absurd (none_held y ((same y).1 (zero, omega arith, refl)))
  same_from_sorted (x ∷ xs) [] up above same = absurd (none_held x ((same x).0 (zero, omega arith, refl)))
  same_from_sorted (x ∷ xs) (y ∷ ys) up above same =
      let heads : x ≡ y = same_heads x y xs ys up above ((same x).0 (zero, omega arith, refl)) ((same y).1 (zero, omega arith, refl)) in
      ap₂ ◌∷◌ heads (same_from_sorted xs ys (sorted_tail R x xs up) (sorted_tail R y ys above) (λ z.
      (in_tail x y z xs ys up heads (same z).0, in_tail y x z ys xs above (sym heads) (same z).1)))
