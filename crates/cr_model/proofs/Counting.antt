-- How many elements pass a test; so what is covered is counted.
use Rattle.std.proofs.Common.{◌≡◌, ℕ, zero, suc, ◌+◌, ◌<◌, ◌≤◌, ◌↔◌, Bool, true, false, cond, List, [], ◌∷◌, length, get_or, All, Contains, count_by, bytes_eq, inl, inr, refl, sym, ap, ◌∙◌, subst, arith}
use Rattle.std.proofs.lemmas.Bool.{cases_lt, false_from_ne_true}
use Rattle.std.proofs.lemmas.List.{get_or_default}
use Rattle.std.proofs.lemmas.List.Elements.{All-head, All-tail, All-from_get_or}
use Rattle.std.proofs.lemmas.List.Sums.{sum_by-cons}
use Rattle.std.proofs.lemmas.Slice.Eq.{bytes_eq-Decides}
use Rattle.cr_model.specs.Problems.{ProblemParts}
use Rattle.cr_model.specs.Nodes.{is_above, nodes_above, times_found, Covers, Splits}
use Rattle.cr_model.specs.Touches.{Kept}
use Rattle.cr_model.proofs.InOrder.{contains_cases, contains_more, none_held}

module _ {X : Type 0} (test : X → Bool) where
  -- the count with an element in front
  pub count_more : (x : X) (xs : List X) → count_by test (x ∷ xs) ≡ cond (test x) 1 0 + count_by test xs
  count_more x xs = sum_by-cons (λ y. cond (test y) 1 0) x xs

  pub count_yes : (x : X) (xs : List X) → test x ≡ true → count_by test (x ∷ xs) ≡ 1 + count_by test xs
  count_yes x xs h = count_more x xs ∙ ap (λ b. cond b 1 0 + count_by test xs) h

  pub count_no : (x : X) (xs : List X) → test x ≡ false → count_by test (x ∷ xs) ≡ count_by test xs
  count_no x xs h = count_more x xs ∙ ap (λ b. cond b 1 0 + count_by test xs) h ∙ omega arith

  -- where none passes the count is zero
  pub count_none : (xs : List X) → All (λ x. test x ≡ false) xs → count_by test xs ≡ 0
  count_none [] none = refl
  count_none (x ∷ xs) none = count_no x xs (All-head (λ y. test y ≡ false) x xs none) ∙ count_none xs (All-tail (λ y. test y ≡ false) x xs none)

  pub none_count : (xs : List X) (d : X) → ((i : ℕ) → i < length xs → test (get_or xs i d) ≡ false) → count_by test xs ≡ 0
  none_count xs d none = count_none xs (All-from_get_or (λ x. test x ≡ false) xs d none)

  -- a held element that passes is counted
  pub counted : (x : X) (xs : List X) → Contains xs x → test x ≡ true → 1 ≤ count_by test xs
  counted x [] held passes = absurd (none_held x held)
  counted x (y ∷ xs) held passes = elim (contains_cases y x xs held) [
    | inl e ↦ omega (arith, count_yes y xs (ap test e ∙ passes))
    | inr later ↦ omega (arith, count_more y xs, counted x xs later passes)
  ]

  pub one_counts : (xs : List X) (i : ℕ) (d : X) → i < length xs → test (get_or xs i d) ≡ true → 1 ≤ count_by test xs
  one_counts xs i d inside passes = counted (get_or xs i d) xs (i, inside, get_or_default xs i (get_or xs i d) d inside) passes

  -- two at different places are counted as two
  pub two_count : (xs : List X) (i j : ℕ) (d : X) → i < j → j < length xs → test (get_or xs i d) ≡ true → test (get_or xs j d) ≡ true → 2 ≤ count_by test xs
  two_count [] i j d before inside first second = absurd (omega arith)
  two_count (x ∷ xs) i zero d before inside first second = absurd (omega arith)
  two_count (x ∷ xs) zero (suc j) d before inside first second = omega (arith, count_yes x xs first, one_counts xs j d (omega arith) second)
  two_count (x ∷ xs) (suc i) (suc j) d before inside first second =
      omega (arith, count_more x xs, two_count xs i j d (omega arith) (omega arith) first second)

  -- where the count is zero none passes
  pub none_passes : (xs : List X) (d : X) → count_by test xs ≡ 0 → (i : ℕ) → i < length xs → test (get_or xs i d) ≡ false
  none_passes xs d zero_count i inside = false_from_ne_true (test (get_or xs i d)) (λ passes. absurd (omega (arith, one_counts xs i d inside passes)))

  -- where no two pass the count is one at most
  pub few_count : (xs : List X) (d : X) → ((i j : ℕ) → i < j → j < length xs → test (get_or xs i d) ≡ true → test (get_or xs j d) ≡ true → ⊥) → count_by test xs ≤ 1
  few_count [] d apart = omega arith
  few_count (x ∷ xs) d apart =
      by (test x) refl (few_count xs d (λ i j before inside one two. apart (suc i) (suc j) (omega arith) (omega arith) one two))
    where
      by : (b : Bool) → test x ≡ b → count_by test xs ≤ 1 → count_by test (x ∷ xs) ≤ 1
      by true first few =
          let rest = none_count xs d (λ i inside. false_from_ne_true (test (get_or xs i d)) (λ passes. apart zero (suc i) (omega arith) (omega arith) first passes)) in
          omega (arith, count_yes x xs first, rest)
      by false first few = omega (arith, count_no x xs first, few)

  -- a count of at least one has an element that passes
  pub passing : (xs : List X) → 1 ≤ count_by test xs → (x : X) × Contains xs x × (test x ≡ true)
  passing [] some = absurd (omega arith)
  passing (x ∷ xs) some = by (test x) refl (passing xs)
    where
      by : (b : Bool) → test x ≡ b → (1 ≤ count_by test xs → (y : X) × Contains xs y × (test y ≡ true)) → (y : X) × Contains (x ∷ xs) y × (test y ≡ true)
      by true h later = (x, (zero, omega arith, refl), h)
      by false h later =
          let (y, held, passes) = later (omega (arith, count_no x xs h)) in
          (y, contains_more x y xs held, passes)

-- what was found was found at least once
found_times : (found : List (List ℕ)) (calling : List ℕ) → Contains found calling → 1 ≤ times_found found calling
found_times found calling held = counted (bytes_eq calling) calling found held ((bytes_eq-Decides calling calling).1 refl)

-- and back
times_of_found : (found : List (List ℕ)) (calling : List ℕ) → 1 ≤ times_found found calling → Contains found calling
times_of_found found calling some =
    let (other, held, same) = passing (bytes_eq calling) found some in
    subst (Contains found) (sym ((bytes_eq-Decides calling other).0 same)) held

-- what is covered was found or has a node above it
pub reached_above : (p : ProblemParts) (found nodes : List (List ℕ)) (calling : List ℕ) → Covers p found nodes calling → 1 ≤ times_found found calling + nodes_above p nodes calling
reached_above p found nodes calling covers = elim covers.reached [
  | inl held ↦ omega (arith, found_times found calling held)
  | inr above ↦ omega (arith, counted (λ node. is_above p node calling) above.0 nodes above.1 above.2)
]

-- and back
pub covers_by_count : (p : ProblemParts) (found nodes : List (List ℕ)) (calling : List ℕ) → Kept p calling → 1 ≤ times_found found calling + nodes_above p nodes calling → Covers p found nodes calling
covers_by_count p found nodes calling kept some = record {
  kept = kept;
  reached = elim (cases_lt 0 (times_found found calling)) [
    | inl more ↦ inl (times_of_found found calling (omega arith))
    | inr none ↦ inr (passing (λ node. is_above p node calling) nodes (omega arith))
  ];
}

-- what a job covers, its split covers, and nothing else
pub split_covers : (p : ProblemParts) (job found rest : List (List ℕ)) → Splits p job found rest → (calling : List ℕ) → Covers p [] job calling ↔ Covers p found rest calling
split_covers p job found rest splits calling = (
  λ covers. covers_by_count p found rest calling covers.kept (omega (arith, splits.each calling covers.kept, reached_above p [] job calling covers)),
  λ covers. covers_by_count p [] job calling covers.kept (omega (arith, splits.each calling covers.kept, reached_above p found rest calling covers)),
)
