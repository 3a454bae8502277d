-- A change turns the parity of each row of one length alike. So changes rung from two rows do.
use Rattle.std.proofs.Common.{◌≡◌, ◌≢◌, ℕ, zero, suc, ◌+◌, ◌-◌, ◌*◌, ◌/◌, ◌%◌, ◌<◌, ◌≤◌, Bool, true, false, cond, nat_eq, nat_lt, List, [], ◌∷◌, ◌++◌, length, get_or, refl, sym, ap, ◌∙◌, subst, arith}
use Rattle.std.specs.List.{list_any, range_with_len}
use Rattle.std.proofs.lemmas.Bool.Decides.{nat_tests}
use Rattle.cr_row.specs.Rows.{Places, IsRow, rounds, changed, after}
use Rattle.cr_model.specs.Callings.{rows_from, last_of}
use Rattle.cr_false.specs.Telling.{lower, falling, IsEven}

-- one for a bell that is lower
abbrev one_if : ℕ → ℕ → ℕ
one_if other bell = cond {A = ℕ} (nat_lt other bell) 1 0

-- a change moves bells, and takes none
lower_changed : (bell : ℕ) (made : List ℕ) (p : ℕ) (row : List ℕ) → lower bell (changed made p row) ≡ lower bell row
lower_changed bell made p [] = refl
lower_changed bell made p (x ∷ []) = refl
lower_changed bell made p (x ∷ y ∷ xs) =
    by (list_any (nat_eq p) made) (lower_changed bell made (p + 1) (y ∷ xs)) (lower_changed bell made (p + 2) xs)
  where
    by : (b : Bool) → lower bell (changed made (p + 1) (y ∷ xs)) ≡ lower bell (y ∷ xs) → lower bell (changed made (p + 2) xs) ≡ lower bell xs
        → lower bell (cond b (x ∷ changed made (p + 1) (y ∷ xs)) (y ∷ x ∷ changed made (p + 2) xs)) ≡ lower bell (x ∷ y ∷ xs)
    by true one two = omega (arith, one)
    by false one two = omega (arith, two)

-- how many pairs a change swaps
abbrev swaps : List ℕ → ℕ → List ℕ → ℕ
swaps made p [] = 0
swaps made p (x ∷ []) = 0
swaps made p (x ∷ y ∷ xs) = cond (list_any (nat_eq p) made) (swaps made (p + 1) (y ∷ xs)) (1 + swaps made (p + 2) xs)

-- as many in each row of one length
swaps_alike : (made : List ℕ) (p : ℕ) (xs ys : List ℕ) → length xs ≡ length ys → swaps made p xs ≡ swaps made p ys
swaps_alike made p [] [] long = refl
swaps_alike made p [] (y ∷ ys) long = absurd (omega (arith, long))
swaps_alike made p (x ∷ xs) [] long = absurd (omega (arith, long))
swaps_alike made p (x ∷ []) (y ∷ []) long = refl
swaps_alike made p (x ∷ []) (y ∷ z ∷ ys) long = absurd (omega (arith, long))
swaps_alike made p (w ∷ x ∷ xs) (y ∷ []) long = absurd (omega (arith, long))
swaps_alike made p (w ∷ x ∷ xs) (y ∷ z ∷ ys) long =
    let one : swaps made (p + 1) (x ∷ xs) ≡ swaps made (p + 1) (z ∷ ys) = swaps_alike made (p + 1) (x ∷ xs) (z ∷ ys) (omega (arith, long)) in
    let two : swaps made (p + 2) xs ≡ swaps made (p + 2) ys = swaps_alike made (p + 2) xs ys (omega (arith, long)) in
    ap (λ (n : ℕ). cond (list_any (nat_eq p) made) n (1 + swaps made (p + 2) xs)) one
    ∙ ap (λ (n : ℕ). cond (list_any (nat_eq p) made) (swaps made (p + 1) (z ∷ ys)) (1 + n)) two

-- no bell is its neighbour
abbrev AreApart : List ℕ → Type 0
AreApart row = (i : ℕ) → suc i < length row → get_or row i 0 ≢ get_or row (suc i) 0

apart_less : (x : ℕ) (xs : List ℕ) → AreApart (x ∷ xs) → AreApart xs
apart_less x xs apart i within same = apart (suc i) (omega (arith, within)) same

-- of two bells one is lower
one_lower : (x y : ℕ) → x ≢ y → one_if x y + one_if y x ≡ 1
one_lower x y other = grind (arith, nat_tests)

-- a change turns the parity as often as it swaps
turned : (made : List ℕ) (p : ℕ) (row : List ℕ) → AreApart row → (falling (changed made p row) + falling row + swaps made p row) % 2 ≡ 0
turned made p [] apart = omega arith
turned made p (x ∷ []) apart = omega arith
turned made p (x ∷ y ∷ xs) apart =
    by (list_any (nat_eq p) made) (turned made (p + 1) (y ∷ xs) (apart_less x (y ∷ xs) apart)) (turned made (p + 2) xs (apart_less y xs (apart_less x (y ∷ xs) apart)))
    (lower_changed x made (p + 1) (y ∷ xs)) (lower_changed x made (p + 2) xs) (lower_changed y made (p + 2) xs) (one_lower x y (apart 0 (omega arith)))
  where
    by : (b : Bool) → (falling (changed made (p + 1) (y ∷ xs)) + falling (y ∷ xs) + swaps made (p + 1) (y ∷ xs)) % 2 ≡ 0
        → (falling (changed made (p + 2) xs) + falling xs + swaps made (p + 2) xs) % 2 ≡ 0
        → lower x (changed made (p + 1) (y ∷ xs)) ≡ lower x (y ∷ xs) → lower x (changed made (p + 2) xs) ≡ lower x xs → lower y (changed made (p + 2) xs) ≡ lower y xs
        → one_if x y + one_if y x ≡ 1
        → (falling (cond b (x ∷ changed made (p + 1) (y ∷ xs)) (y ∷ x ∷ changed made (p + 2) xs)) + falling (x ∷ y ∷ xs)
        + cond b (swaps made (p + 1) (y ∷ xs)) (1 + swaps made (p + 2) xs)) % 2 ≡ 0
    by true stays swapped same first second lower' = omega (arith, stays, same)
    by false stays swapped same first second lower' = omega (arith, swapped, first, second, lower')

-- a row's bells are apart
row_apart : (row : List ℕ) → IsRow row → AreApart row
row_apart row is i within same = let e : i ≡ suc i = is.apart i (suc i) (omega (arith, within)) within same in omega (arith, e)

module _ (after_row : (c : Places) (r : List ℕ) → IsRow r → IsRow (after c r)) (after_long : (c : Places) (r : List ℕ) → length (after c r) ≡ length r) where
  -- changes turn the parity of two rows alike
  pub turned_alike : (row other : List ℕ) (changes : List Places) → IsRow row → IsRow other → length row ≡ length other
      → (falling (last_of row (rows_from row changes)) + falling row + (falling (last_of other (rows_from other changes)) + falling other)) % 2 ≡ 0
  turned_alike row other [] is too long = omega arith
  turned_alike row other (change ∷ changes) is too long =
      let same : swaps change.made 1 row ≡ swaps change.made 1 other = swaps_alike change.made 1 row other long in
      let here : (falling (after change row) + falling row + swaps change.made 1 row) % 2 ≡ 0 = turned change.made 1 row (row_apart row is) in
      let there : (falling (after change other) + falling other + swaps change.made 1 other) % 2 ≡ 0 = turned change.made 1 other (row_apart other too) in
      let rest = turned_alike (after change row) (after change other) changes (after_row change row is) (after_row change other too) (after_long change row ∙ long ∙ sym (after_long change other)) in
      omega (arith, same, here, there, rest)

-- rounds is even
lower_none : (bell a n : ℕ) → bell ≤ a → lower bell (range_with_len a n) ≡ 0
lower_none bell a zero high = refl
lower_none bell a (suc n) high =
    let none : one_if a bell ≡ 0 = grind (arith, nat_tests) in
    omega (arith, none, lower_none bell (a + 1) n (omega (arith, high)))

rising : (a n : ℕ) → falling (range_with_len a n) ≡ 0
rising a zero = refl
rising a (suc n) = omega (arith, lower_none a (a + 1) n (omega arith), rising (a + 1) n)

pub rounds_even : (n : ℕ) → falling (rounds n) ≡ 0
rounds_even n = rising 1 n
