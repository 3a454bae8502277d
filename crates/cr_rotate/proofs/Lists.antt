-- Lists in order, by the place where they first differ.
use Rattle.std.proofs.Common.{◌≡◌, ℕ, zero, suc, ◌<◌, List, [], ◌∷◌, length, get_or, Less, is_lt, nat_cmp, refl, sym, ap, ◌∙◌, arith}
use Rattle.std.specs.Cmp.Lexicographic.{slice_cmp}
use Rattle.std.specs.Ordering.{ordering_then}
use Rattle.std.proofs.lemmas.Bool.{false≢true}
use Rattle.std.proofs.lemmas.Bool.Decides.{nat_tests}
use Rattle.std.proofs.lemmas.Cmp.{by_ranked, ranked}

-- lists of which the first is less where they first differ
pub less_at : (xs ys : List ℕ) (j : ℕ) → j < length xs → j < length ys → ((i : ℕ) → i < j → get_or xs i 0 ≡ get_or ys i 0) → get_or xs j 0 < get_or ys j 0 → slice_cmp nat_cmp xs ys ≡ Less
less_at [] ys j inside within same less = absurd (omega arith)
less_at (x ∷ xs) [] j inside within same less = absurd (omega arith)
less_at (x ∷ xs) (y ∷ ys) zero inside within same less = grind (arith, nat_tests)
less_at (x ∷ xs) (y ∷ ys) (suc j) inside within same less =
    let first : x ≡ y = same 0 (omega arith) in
    let rest : slice_cmp nat_cmp xs ys ≡ Less = less_at xs ys j (omega arith) (omega arith) (λ i low. same (suc i) (omega arith)) less in
    grind (arith, nat_tests)

-- two lists with equal first items are alike up to a place where their rests are
alike : (x y : ℕ) (xs ys : List ℕ) (j : ℕ) → x ≡ y → ((i : ℕ) → i < j → get_or xs i 0 ≡ get_or ys i 0) → (i : ℕ) → i < suc j → get_or (x ∷ xs) i 0 ≡ get_or (y ∷ ys) i 0
alike x y xs ys j first rest zero low = first
alike x y xs ys j first rest (suc i) low = rest i (omega arith)

-- of two lists of one length the first is less only where it is less at the first place where they differ
pub record Below (xs ys : List ℕ) (j : ℕ) : Type 0 where
  pub inside : j < length xs
  pub same : (i : ℕ) → i < j → get_or xs i 0 ≡ get_or ys i 0
  pub less : get_or xs j 0 < get_or ys j 0

pub first_place : (xs ys : List ℕ) → length xs ≡ length ys → slice_cmp nat_cmp xs ys ≡ Less → (j : ℕ) × Below xs ys j
first_place [] [] long less = absurd (false≢true (ap is_lt less))
first_place [] (y ∷ ys) long less = absurd (omega arith)
first_place (x ∷ xs) [] long less = absurd (omega arith)
first_place (x ∷ xs) (y ∷ ys) long less = by_ranked (x < y) (x ≡ y) (y < x) (nat_cmp x y) (ranked x y (nat_cmp x y) refl)
    (λ is below. (0, record { inside = omega arith; same = λ i low. absurd (omega arith); less = below }))
    (λ is first.
    let rest : slice_cmp nat_cmp xs ys ≡ Less = ap (λ o. ordering_then o (slice_cmp nat_cmp xs ys)) (sym is) ∙ less in
    let (j, found) = first_place xs ys (omega arith) rest in
    (suc j, record { inside = omega (arith, found.inside); same = alike x y xs ys j first found.same; less = found.less }))
    (λ is above. absurd (false≢true (ap is_lt (ap (λ o. ordering_then o (slice_cmp nat_cmp xs ys)) (sym is) ∙ less))))
