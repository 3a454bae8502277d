-- Laws of changes.
use Rattle.std.proofs.Common.{◌≡◌, ℕ, zero, suc, ◌+◌, ◌-◌, ◌<◌, ◌≤◌, ◌≢◌, ◌⊎◌, Bool, true, false, cond, ◌||◌, nat_eq, List, [], ◌∷◌, length, get_or, refl, ap, sym, ◌∙◌, subst, arith, inl, inr}
use Rattle.std.specs.List.{list_any, All, IsDistinct}
use Rattle.std.specs.List.Sorted.{IsPermutation}
use Rattle.std.proofs.lemmas.Bool.{cases_eq, cases_lt, cases_Bool, false≢true}
use Rattle.std.proofs.lemmas.Map.Keys.{IsDistinct-from_apart, IsDistinct-IsPermutation, apart_from_distinct}
use Rattle.std.proofs.lemmas.Bool.Decides.{nat_tests}
use Rattle.std.proofs.lemmas.List.{get_or_default}
use Rattle.std.proofs.lemmas.List.Sorted.{IsPermutation-refl, IsPermutation-cons, IsPermutation-trans, IsPermutation-swap, All-permutation, Contains-permutation, length_permutation}
use Rattle.cr_row.specs.Rows.{Places, IsRow, IsChain, IsChange, product, changed}
use Rattle.cr_row.proofs.Masking.{chain_low, skipped, agree, none_from}

-- the bells only change places
IsPermutation-changed : (made : List ℕ) (p : ℕ) (row : List ℕ) → IsPermutation row (changed made p row)
IsPermutation-changed made p [] = IsPermutation-refl []
IsPermutation-changed made p (x ∷ []) = IsPermutation-refl (x ∷ [])
IsPermutation-changed made p (x ∷ y ∷ xs) =
    by (list_any (nat_eq p) made) (IsPermutation-changed made (p + 1) (y ∷ xs)) (IsPermutation-changed made (p + 2) xs)
  where
    by : (b : Bool) → IsPermutation (y ∷ xs) (changed made (p + 1) (y ∷ xs))
        → IsPermutation xs (changed made (p + 2) xs)
        → IsPermutation (x ∷ y ∷ xs) (cond b (x ∷ changed made (p + 1) (y ∷ xs)) (y ∷ x ∷ changed made (p + 2) xs))
    by true one two = IsPermutation-cons x (y ∷ xs) (changed made (p + 1) (y ∷ xs)) one
    by false one two =
        IsPermutation-trans (x ∷ y ∷ xs) (y ∷ x ∷ xs) (y ∷ x ∷ changed made (p + 2) xs)
        (IsPermutation-swap (x ∷ y ∷ xs) (y ∷ x ∷ xs) 0 1 (omega arith) (omega arith) refl)
        (IsPermutation-cons y (x ∷ xs) (x ∷ changed made (p + 2) xs) (IsPermutation-cons x xs (changed made (p + 2) xs) two))

differ : (a b : ℕ) → a ≢ b → nat_eq a b ≡ false
differ a b n = grind (arith, nat_tests)

same_as : (a b : ℕ) → nat_eq a b ≡ false → a ≢ b
same_as a b h = λ e. grind (arith, nat_tests)

turned : (a b : ℕ) → nat_eq a b ≡ nat_eq b a
turned a b = grind (arith, nat_tests)

IsRow-permutation : (row other : List ℕ) → IsPermutation row other → IsRow row → IsRow other
IsRow-permutation row other moves p =
    let long : length other ≡ length row = length_permutation row other moves in
    let all : All (λ b. (0 < b) × (b ≤ length row)) other = All-permutation (λ b. (0 < b) × (b ≤ length row)) row other moves
    (λ k d h. subst (λ (b : ℕ). (0 < b) × (b ≤ length row)) (get_or_default row k 0 d h) (p.in_range k h)) in
    let distinct : IsDistinct nat_eq other = IsDistinct-IsPermutation nat_eq turned row other moves
    (IsDistinct-from_apart nat_eq row (λ i j d less in'. differ _ _ (λ e.
    let same : i ≡ j = p.apart i j (omega arith) in' (get_or_default row i 0 d (omega arith) ∙ e ∙ get_or_default row j d 0 in') in omega arith))) in
    record {
      in_range = λ i h. (let b = all i 0 h in (b.0, omega (arith, b.1)));
      apart = λ i j h g e. elim (cases_lt i j) [
        | inl less ↦ absurd (same_as _ _ (apart_from_distinct nat_eq other i j 0 distinct less g) e)
        | inr not' ↦ elim (cases_lt j i) [
          | inl more ↦ absurd (same_as _ _ (apart_from_distinct nat_eq other j i 0 distinct more h) (sym e))
          | inr nor ↦ omega arith
        ]
      ];
      reached = λ b low high. (
          let (k, h, at) = p.reached b low (omega arith) in
          let (i, g, to) = Contains-permutation row other b moves (k, h, get_or_default row k b 0 h ∙ at) in
          (i, g, get_or_default other i 0 b g ∙ to));
    }

pub IsRow-changed : (made row : List ℕ) → IsRow row → IsRow (changed made 1 row)
IsRow-changed made row p = IsRow-permutation row (changed made 1 row) (IsPermutation-changed made 1 row) p

-- ---- a change on lists, from place p on
at_stay : (made : List ℕ) (p x : ℕ) (xs : List ℕ) → list_any (nat_eq p) made ≡ true
    → changed made p (x ∷ xs) ≡ x ∷ changed made (p + 1) xs
at_stay made p x [] e = refl
at_stay made p x (y ∷ ys) e = ap (λ b. cond b (x ∷ changed made (p + 1) (y ∷ ys)) (y ∷ x ∷ changed made (p + 2) ys)) e

at_swap : (made : List ℕ) (p x y : ℕ) (xs : List ℕ) → list_any (nat_eq p) made ≡ false
    → changed made p (x ∷ y ∷ xs) ≡ y ∷ x ∷ changed made (p + 2) xs
at_swap made p x y xs e = ap (λ b. cond b (x ∷ changed made (p + 1) (y ∷ xs)) (y ∷ x ∷ changed made (p + 2) xs)) e

pub length-changed : (made : List ℕ) (p : ℕ) (row : List ℕ) → length (changed made p row) ≡ length row
length-changed made p row = length_permutation row (changed made p row) (IsPermutation-changed made p row)

-- a change undoes itself
pub changed_twice : (made : List ℕ) (p : ℕ) (row : List ℕ) → changed made p (changed made p row) ≡ row
changed_twice made p [] = refl
changed_twice made p (x ∷ []) = refl
changed_twice made p (x ∷ y ∷ xs) = elim (cases_Bool (list_any (nat_eq p) made)) [
  | inl stays ↦
      ap (changed made p) (at_stay made p x (y ∷ xs) stays) ∙ at_stay made p x (changed made (p + 1) (y ∷ xs)) stays
      ∙ ap (λ l. x ∷ l) (changed_twice made (p + 1) (y ∷ xs))
  | inr swaps ↦
      ap (changed made p) (at_swap made p x y xs swaps) ∙ at_swap made p y x (changed made (p + 2) xs) swaps
      ∙ ap (λ l. x ∷ y ∷ l) (changed_twice made (p + 2) xs)
]

-- a bell of the row stands at most a place away
pub record IsNear (row other : List ℕ) (i : ℕ) : Type 0 where
  pub to : ℕ
  pub within : to < length row
  pub up : to ≤ i + 1
  pub down : i ≤ to + 1
  pub bell : get_or other to 0 ≡ get_or row i 0

near_more : (x y : ℕ) (row other : List ℕ) (i : ℕ) → IsNear row other i → IsNear (x ∷ row) (y ∷ other) (suc i)
near_more x y row other i near =
    record { to = suc near.to; within = omega (arith, near.within); up = omega (arith, near.up); down = omega (arith, near.down); bell = near.bell }

near_stay : (x y : ℕ) (xs other : List ℕ) → ((i : ℕ) → i < length (y ∷ xs) → IsNear (y ∷ xs) other i) → (i : ℕ)
    → i < length (x ∷ y ∷ xs) → IsNear (x ∷ y ∷ xs) (x ∷ other) i
near_stay x y xs other rest zero h = record { to = 0; within = omega arith; up = omega arith; down = omega arith; bell = refl }
near_stay x y xs other rest (suc i) h = near_more x x (y ∷ xs) other i (rest i (omega arith))

near_swap : (x y : ℕ) (xs other : List ℕ) → ((i : ℕ) → i < length xs → IsNear xs other i) → (i : ℕ)
    → i < length (x ∷ y ∷ xs) → IsNear (x ∷ y ∷ xs) (y ∷ x ∷ other) i
near_swap x y xs other rest zero h = record { to = 1; within = omega arith; up = omega arith; down = omega arith; bell = refl }
near_swap x y xs other rest (suc zero) h = record { to = 0; within = omega arith; up = omega arith; down = omega arith; bell = refl }
near_swap x y xs other rest (suc (suc i)) h = near_more x y (y ∷ xs) (x ∷ other) (suc i) (near_more y x xs other i (rest i (omega arith)))

pub changed_near : (made : List ℕ) (p : ℕ) (row : List ℕ) (i : ℕ) → i < length row → IsNear row (changed made p row) i
changed_near made p [] i h = absurd (omega arith)
changed_near made p (x ∷ []) i h = record { to = i; within = h; up = omega arith; down = omega arith; bell = refl }
changed_near made p (x ∷ y ∷ xs) i h = elim (cases_Bool (list_any (nat_eq p) made)) [
  | inl stays ↦
      subst (λ (l : List ℕ). IsNear (x ∷ y ∷ xs) l i) (sym (at_stay made p x (y ∷ xs) stays))
      (near_stay x y xs (changed made (p + 1) (y ∷ xs)) (λ k. changed_near made (p + 1) (y ∷ xs) k) i h)
  | inr swaps ↦
      subst (λ (l : List ℕ). IsNear (x ∷ y ∷ xs) l i) (sym (at_swap made p x y xs swaps))
      (near_swap x y xs (changed made (p + 2) xs) (λ k. changed_near made (p + 2) xs k) i h)
]

-- a place below says nothing
changed_below : (made : List ℕ) (p m : ℕ) (row : List ℕ) → m < p → changed (m ∷ made) p row ≡ changed made p row
changed_below made p m [] h = refl
changed_below made p m (x ∷ []) h = refl
changed_below made p m (x ∷ y ∷ xs) h =
    let other : p ≢ m = omega arith in
    let test : list_any (nat_eq p) (m ∷ made) ≡ list_any (nat_eq p) made = skipped p m made other in
    let one : changed (m ∷ made) (p + 1) (y ∷ xs) ≡ changed made (p + 1) (y ∷ xs) = changed_below made (p + 1) m (y ∷ xs) (omega arith) in
    let two : changed (m ∷ made) (p + 2) xs ≡ changed made (p + 2) xs = changed_below made (p + 2) m xs (omega arith) in
    λ i. cond (test i) (x ∷ one i) (y ∷ x ∷ two i)

-- a place of a chain is above its start
in_chain : (b n q : ℕ) (made : List ℕ) → IsChain n b made → list_any (nat_eq q) made ≡ true → b < q
in_chain b n q [] h is = absurd (false≢true is)
in_chain b n q (m ∷ ms) h is = elim (cases_eq q m) [
  | inl here ↦ omega (arith, h.0.0)
  | inr later ↦ omega (arith, h.0.0, in_chain m n q ms h.1 (sym (skipped q m ms later) ∙ is))
]

not_below : (m n q : ℕ) (ms : List ℕ) → IsChain n m ms → list_any (nat_eq q) (m ∷ ms) ≡ true → m ≤ q
not_below m n q ms h is = elim (cases_eq q m) [
  | inl here ↦ omega arith
  | inr later ↦ omega (arith, in_chain m n q ms h (sym (skipped q m ms later) ∙ is))
]

same_bell : (xs ys : List ℕ) (i j d : ℕ) → i ≡ j → get_or xs j d ≡ get_or ys j d → get_or xs i d ≡ get_or ys i d
same_bell xs ys i j d e h = ap (λ k. get_or xs k d) e ∙ h ∙ ap (λ k. get_or ys k d) (sym e)

-- the bell at a place made stays
pub changed_stays : (b p n q : ℕ) (made row : List ℕ) → p ≡ b + 1 → n + 1 ≡ p + length row → IsChain n b made
    → list_any (nat_eq q) made ≡ true → get_or (changed made p row) (q - p) 0 ≡ get_or row (q - p) 0
changed_stays b p n q made [] at to h is = refl
changed_stays b p n q made (x ∷ []) at to h is = refl
changed_stays b p n q [] (x ∷ y ∷ xs) at to h is = absurd (false≢true is)
changed_stays b p n q (m ∷ ms) (x ∷ y ∷ xs) at to h is = elim (cases_eq p m) [
  | inl here ↦
      let step : changed (m ∷ ms) p (x ∷ y ∷ xs) ≡ x ∷ changed ms (p + 1) (y ∷ xs) =
      at_stay (m ∷ ms) p x (y ∷ xs) (ap (λ t. t || list_any (nat_eq p) ms) (agree p m here)) ∙ ap (λ l. x ∷ l) (changed_below ms (p + 1) m (y ∷ xs) (omega arith)) in
      ap (λ l. get_or l (q - p) 0) step ∙ elim (cases_eq q m) [
        | inl first ↦ same_bell (x ∷ changed ms (p + 1) (y ∷ xs)) (x ∷ y ∷ xs) (q - p) 0 0 (omega arith) refl
        | inr later ↦
            let rest : list_any (nat_eq q) ms ≡ true = sym (skipped q m ms later) ∙ is in
            same_bell (x ∷ changed ms (p + 1) (y ∷ xs)) (x ∷ y ∷ xs) (q - p) (suc (q - (p + 1))) 0 (omega (arith, in_chain m n q ms h.1 rest))
            (changed_stays m (p + 1) n q ms (y ∷ xs) (omega arith) (omega arith) h.1 rest)
      ]
  | inr other ↦
      let above : p + 2 ≤ m = omega (arith, h.0.0, h.0.1) in
      let none : list_any (nat_eq p) (m ∷ ms) ≡ false = skipped p m ms other ∙ none_from p m n ms (omega arith) h.1 in
      let high : m ≤ q = not_below m n q ms h.1 is in
      let start : IsChain n (b + 2) (m ∷ ms) = ((omega (arith, h.0.0, h.0.1), omega (arith, h.0.0, h.0.1)), h.1) in
      ap (λ l. get_or l (q - p) 0) (at_swap (m ∷ ms) p x y xs none)
      ∙ same_bell (y ∷ x ∷ changed (m ∷ ms) (p + 2) xs) (x ∷ y ∷ xs) (q - p) (suc (suc (q - (p + 2)))) 0 (omega arith)
      (changed_stays (b + 2) (p + 2) n q (m ∷ ms) xs (omega arith) (omega arith) start is)
]

-- a place made stands where it stood
pub after_stays : (c : Places) (r : List ℕ) (p : ℕ) → IsChange c → length r ≡ c.stage
    → list_any (nat_eq p) c.made ≡ true → get_or (changed c.made 1 r) (p - 1) 0 ≡ get_or r (p - 1) 0
after_stays c r p change long is = changed_stays 0 1 c.stage p c.made r refl (omega arith) change is

-- a change of a product
pub changed-product : (h made : List ℕ) (p : ℕ) (r : List ℕ)
    → changed made p (product h r) ≡ product h (changed made p r)
changed-product h made p [] = refl
changed-product h made p (x ∷ []) = refl
changed-product h made p (x ∷ y ∷ xs) = elim (cases_Bool (list_any (nat_eq p) made)) [
  | inl stays ↦
      at_stay made p (get_or h (x - 1) 0) (product h (y ∷ xs)) stays ∙ ap (λ l. get_or h (x - 1) 0 ∷ l) (changed-product h made (p + 1) (y ∷ xs))
      ∙ ap (product h) (sym (at_stay made p x (y ∷ xs) stays))
  | inr swaps ↦
      at_swap made p (get_or h (x - 1) 0) (get_or h (y - 1) 0) (product h xs) swaps ∙ ap (λ l. get_or h (y - 1) 0 ∷ get_or h (x - 1) 0 ∷ l) (changed-product h made (p + 2) xs)
      ∙ ap (product h) (sym (at_swap made p x y xs swaps))
]

-- the bell at index i swaps with that of a neighbour that is not made either
pub record IsSwap (made : List ℕ) (p : ℕ) (row other : List ℕ) (i : ℕ) : Type 0 where
  pub to : ℕ
  pub within : to < length row
  pub next : (to ≡ i + 1) ⊎ (i ≡ to + 1)
  pub free : list_any (nat_eq (p + to)) made ≡ false
  pub here : get_or other i 0 ≡ get_or row to 0
  pub there : get_or other to 0 ≡ get_or row i 0

up_one : (i j : ℕ) → (j ≡ i + 1) ⊎ (i ≡ j + 1) → (suc j ≡ suc i + 1) ⊎ (suc i ≡ suc j + 1)
up_one i j (inl above) = inl (omega arith)
up_one i j (inr below) = inr (omega arith)

swap_more : (made : List ℕ) (p q x y : ℕ) (row other : List ℕ) (i : ℕ) → q ≡ p + 1 → IsSwap made q row other i
    → IsSwap made p (x ∷ row) (y ∷ other) (suc i)
swap_more made p q x y row other i e swap =
    let place : q + swap.to ≡ p + suc swap.to = omega arith in
    record {
      to = suc swap.to;
      within = omega (arith, swap.within);
      next = up_one i swap.to swap.next;
      free = ap (λ k. list_any (nat_eq k) made) (sym place) ∙ swap.free;
      here = swap.here;
      there = swap.there;
    }

swap_below : (made : List ℕ) (p q m : ℕ) (row other : List ℕ) (i : ℕ) → m < q → IsSwap made q row other i
    → IsSwap (m ∷ made) q row other i
swap_below made p q m row other i low swap =
    let above : q + swap.to ≢ m = omega arith in
    record {
      to = swap.to;
      within = swap.within;
      next = swap.next;
      free = skipped (q + swap.to) m made above ∙ swap.free;
      here = swap.here;
      there = swap.there;
    }

-- at the start of two places not made
swap_here : (made : List ℕ) (p x y : ℕ) (xs : List ℕ) (i : ℕ) → i < length (x ∷ y ∷ xs)
    → list_any (nat_eq p) made ≡ false → list_any (nat_eq (p + 1)) made ≡ false
    → ((k : ℕ) → k + 2 ≡ i → k < length xs → IsSwap made (p + 2) xs (changed made (p + 2) xs) k) → IsSwap made p (x ∷ y ∷ xs) (y ∷ x ∷ changed made (p + 2) xs) i
swap_here made p x y xs zero h one two rest =
    record { to = 1; within = omega arith; next = inl (omega arith); free = two; here = refl; there = refl }
swap_here made p x y xs (suc zero) h one two rest =
    let same : p + 0 ≡ p = omega arith in
    record { to = 0; within = omega arith; next = inr (omega arith); free = ap (λ k. list_any (nat_eq k) made) same ∙ one; here = refl; there = refl }
swap_here made p x y xs (suc (suc i)) h one two rest =
    swap_more made p (p + 1) x y (y ∷ xs) (x ∷ changed made (p + 2) xs) (suc i) refl
    (swap_more made (p + 1) (p + 2) y x xs (changed made (p + 2) xs) i (omega arith) (rest i (omega arith) (omega arith)))

-- at the start of a place made
stay_here : (ms : List ℕ) (p m x y : ℕ) (xs : List ℕ) (i : ℕ) → i < length (x ∷ y ∷ xs) → p ≡ m
    → list_any (nat_eq (p + i)) (m ∷ ms) ≡ false
    → ((k : ℕ) → k + 1 ≡ i → k < length (y ∷ xs) → IsSwap ms (p + 1) (y ∷ xs) (changed ms (p + 1) (y ∷ xs)) k) → IsSwap (m ∷ ms) p (x ∷ y ∷ xs) (x ∷ changed ms (p + 1) (y ∷ xs)) i
stay_here ms p m x y xs zero h here free rest =
    let made : list_any (nat_eq (p + 0)) (m ∷ ms) ≡ true = ap (λ t. t || list_any (nat_eq (p + 0)) ms) (agree (p + 0) m (omega arith)) in
    absurd (false≢true (sym free ∙ made))
stay_here ms p m x y xs (suc i) h here free rest =
    swap_more (m ∷ ms) p (p + 1) x x (y ∷ xs) (changed ms (p + 1) (y ∷ xs)) i refl
    (swap_below ms p (p + 1) m (y ∷ xs) (changed ms (p + 1) (y ∷ xs)) i (omega arith) (rest i (omega arith) (omega arith)))

no_odd_end : (b p n : ℕ) (made : List ℕ) → p ≡ b + 1 → n + 1 ≡ p + 1 → IsChain n b made
    → list_any (nat_eq p) made ≡ false → ⊥
no_odd_end b p n [] at to h free = omega (arith, h.1)
no_odd_end b p n (m ∷ ms) at to h free =
    let here : p ≡ m = omega (arith, h.0.0, chain_low n m ms h.1) in
    false≢true (sym free ∙ ap (λ t. t || list_any (nat_eq p) ms) (agree p m here))

-- the bells at places not made swap
pub changed_swaps : (b p n : ℕ) (made row : List ℕ) (i : ℕ) → p ≡ b + 1 → n + 1 ≡ p + length row → IsChain n b made
    → i < length row → list_any (nat_eq (p + i)) made ≡ false → IsSwap made p row (changed made p row) i
changed_swaps b p n made [] i at to h in' free = absurd (omega arith)
changed_swaps b p n made (x ∷ []) i at to h in' free =
    let first : p + i ≡ p = omega arith in
    absurd (no_odd_end b p n made at (omega arith) h (ap (λ k. list_any (nat_eq k) made) (sym first) ∙ free))
changed_swaps b p n [] (x ∷ y ∷ xs) i at to h in' free =
    swap_here [] p x y xs i in' refl refl (λ k e within.
    changed_swaps (b + 2) (p + 2) n [] xs k (omega arith) (omega arith) (omega (arith, h.0, h.1), omega (arith, h.0, h.1)) within refl)
changed_swaps b p n (m ∷ ms) (x ∷ y ∷ xs) i at to h in' free = elim (cases_eq p m) [
  | inl here ↦
      let made : list_any (nat_eq p) (m ∷ ms) ≡ true = ap (λ t. t || list_any (nat_eq p) ms) (agree p m here) in
      let step : changed (m ∷ ms) p (x ∷ y ∷ xs) ≡ x ∷ changed ms (p + 1) (y ∷ xs) =
      at_stay (m ∷ ms) p x (y ∷ xs) made ∙ ap (λ l. x ∷ l) (changed_below ms (p + 1) m (y ∷ xs) (omega arith)) in
      subst (λ (l : List ℕ). IsSwap (m ∷ ms) p (x ∷ y ∷ xs) l i) (sym step)
      (stay_here ms p m x y xs i in' here free (λ k e within.
      let place : p + 1 + k ≡ p + i = omega arith in
      let above : p + 1 + k ≢ m = omega arith in
      changed_swaps m (p + 1) n ms (y ∷ xs) k (omega arith) (omega arith) h.1 within
      (sym (skipped (p + 1 + k) m ms above) ∙ ap (λ q. list_any (nat_eq q) (m ∷ ms)) place ∙ free)))
  | inr other ↦
      let above : p + 2 ≤ m = omega (arith, h.0.0, h.0.1) in
      let none : list_any (nat_eq p) (m ∷ ms) ≡ false = skipped p m ms other ∙ none_from p m n ms (omega arith) h.1 in
      let apart : p + 1 ≢ m = omega arith in
      let next : list_any (nat_eq (p + 1)) (m ∷ ms) ≡ false = skipped (p + 1) m ms apart ∙ none_from (p + 1) m n ms (omega arith) h.1 in
      let start : IsChain n (b + 2) (m ∷ ms) = ((omega (arith, h.0.0, h.0.1), omega (arith, h.0.0, h.0.1)), h.1) in
      subst (λ (l : List ℕ). IsSwap (m ∷ ms) p (x ∷ y ∷ xs) l i) (sym (at_swap (m ∷ ms) p x y xs none))
      (swap_here (m ∷ ms) p x y xs i in' none next (λ k e within.
      let place : p + 2 + k ≡ p + i = omega arith in
      changed_swaps (b + 2) (p + 2) n (m ∷ ms) xs k (omega arith) (omega arith) start within (ap (λ q. list_any (nat_eq q) (m ∷ ms)) place ∙ free)))
]

-- of a change on a row of its stage, by indexes from 0
pub after_swaps : (c : Places) (r : List ℕ) (i : ℕ) → IsChange c → length r ≡ c.stage → i < c.stage
    → list_any (nat_eq (i + 1)) c.made ≡ false → IsSwap c.made 1 r (changed c.made 1 r) i
after_swaps c r i change long within free =
    let place : i + 1 ≡ 1 + i = omega arith in
    changed_swaps 0 1 c.stage c.made r i refl (omega arith) change (omega arith) (ap (λ q. list_any (nat_eq q) c.made) (sym place) ∙ free)
