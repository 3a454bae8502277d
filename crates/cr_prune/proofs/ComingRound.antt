-- Where rounds comes in rows that differ.
use Rattle.std.proofs.Common.{◌≡◌, ◌≢◌, ℕ, suc, ◌+◌, ◌-◌, ◌<◌, Bool, true, false, ◌&&◌, ◌||◌, nat_lt, nat_eq, List, [], ◌∷◌, length, get_or, take, drop, Contains, refl, sym, ap, ap₂, ◌∙◌, inl, inr, arith, lt-ltb, length-drop}
use Rattle.std.specs.Cmp.Lexicographic.{pointwise}
use Rattle.std.specs.List.{list_any}
use Rattle.std.proofs.lemmas.Bool.{cases_lt, false_from_ne_true, le-ltb}
use Rattle.std.proofs.lemmas.List.{get_or-take, get_or-drop, get_or_default, length-take-le}
use Rattle.std.proofs.lemmas.List.Folds.{list_any_at}
use Rattle.std.proofs.lemmas.Slice.Eq.{bytes_eq-Decides}
use Rattle.cr_row.specs.Rows.{rounds}
use Rattle.cr_model.specs.Problems.{ProblemParts}
use Rattle.cr_model.specs.Callings.{rows_of, AllDiffer}
use Rattle.cr_model.specs.Dead.{has_rounds, is_round, parts_of}
use Rattle.cr_rowset.specs.Pushing.{StandsAt}

-- a row is among those where it stands, and not among those where it stands nowhere
among : (row : List ℕ) (rows : List (List ℕ)) (place : ℕ) → place < length rows → get_or rows place [] ≡ row → list_any (pointwise nat_eq row) rows ≡ true
among row rows place inside is = list_any_at (pointwise nat_eq row) rows place [] inside ((bytes_eq-Decides row (get_or rows place [])).1 (sym is))

not_among : (row : List ℕ) (rows : List (List ℕ)) → ((i : ℕ) → i < length rows → get_or rows i [] ≢ row) → list_any (pointwise nat_eq row) rows ≡ false
not_among row [] none = refl
not_among row (other ∷ rows) none =
    ap₂ (λ a b. a || b) (false_from_ne_true (pointwise nat_eq row other) (λ same. none 0 (omega arith) (sym ((bytes_eq-Decides row other).0 same))))
    (not_among row rows (λ i inside. none (suc i) (omega arith)))

module _ (row : List ℕ) (rows : List (List ℕ)) where
  -- where it stands before the last place, and where it stands last
  before_last : (place : ℕ) → place + 1 < length rows → get_or rows place [] ≡ row → list_any (pointwise nat_eq row) (take (length rows - 1) rows) ≡ true
  before_last place low is =
      among row (take (length rows - 1) rows) place (omega (arith, low, length-take-le (length rows - 1) rows (omega arith)))
      (get_or-take (length rows - 1) rows place [] (omega (arith, low)) ∙ is)

  at_last : (place : ℕ) → place + 1 ≡ length rows → get_or rows place [] ≡ row → list_any (pointwise nat_eq row) (drop (length rows - 1) rows) ≡ true
  at_last place end is =
      let here : length rows - 1 + 0 ≡ place = omega (arith, end) in
      among row (drop (length rows - 1) rows) 0 (omega (arith, end, length-drop (length rows - 1) rows))
      (get_or-drop (length rows - 1) rows 0 [] ∙ ap (λ i. get_or rows i []) here ∙ is)

  not_before : ((i : ℕ) → i + 1 < length rows → get_or rows i [] ≢ row) → list_any (pointwise nat_eq row) (take (length rows - 1) rows) ≡ false
  not_before none =
      not_among row (take (length rows - 1) rows) (λ i inside same.
      let low : i < length rows - 1 = omega (arith, inside, length-take-le (length rows - 1) rows (omega arith)) in
      none i (omega (arith, low)) (sym (get_or-take (length rows - 1) rows i [] low) ∙ same))

  not_at_last : ((i : ℕ) → i < length rows → get_or rows i [] ≢ row) → list_any (pointwise nat_eq row) (drop (length rows - 1) rows) ≡ false
  not_at_last none =
      not_among row (drop (length rows - 1) rows) (λ i inside same.
      none (length rows - 1 + i) (omega (arith, inside, length-drop (length rows - 1) rows)) (sym (get_or-drop (length rows - 1) rows i []) ∙ same))

or_true : (b : Bool) → (b || true) ≡ true
or_true true = refl
or_true false = refl

and_false : (b : Bool) → (b && false) ≡ false
and_false true = refl
and_false false = refl

module _ (p : ProblemParts) (node : List ℕ) (several : Bool) (differ : AllDiffer (rows_of p node)) (parts : several ≡ nat_lt 1 (parts_of p)) where
  -- rounds stands at a place
  round_at : (rows : List (List ℕ)) (place : ℕ) → AllDiffer rows → StandsAt rows (rounds p.stage) place → (several' : Bool) →
      (has_rounds p (take (length rows - 1) rows) || (has_rounds p (drop (length rows - 1) rows) && several')) ≡ (several' || nat_lt (place + 1) (length rows))
  round_at rows place differ' stands several' = elim (cases_lt (place + 1) (length rows)) [
    | inl low ↦
        ap (λ b. b || (has_rounds p (drop (length rows - 1) rows) && several')) (before_last (rounds p.stage) rows place low stands.is)
        ∙ sym (ap (λ b. several' || b) (lt-ltb (place + 1) (length rows) low) ∙ or_true several')
    | inr high ↦
        let end : place + 1 ≡ length rows = omega (arith, stands.within, high) in
        let none = not_before (rounds p.stage) rows (λ i low same. differ' i place (omega (arith, low, end)) stands.within (same ∙ sym stands.is)) in
        ap₂ (λ a b. a || (b && several')) none (at_last (rounds p.stage) rows place end stands.is)
        ∙ last several' (le-ltb (place + 1) (length rows) high)
  ]
    where
      last : (b : Bool) → nat_lt (place + 1) (length rows) ≡ false → b ≡ (b || nat_lt (place + 1) (length rows))
      last true h = refl
      last false h = sym h

  pub round_told : (place length' : ℕ) → StandsAt (rows_of p node) (rounds p.stage) place → length' ≡ length (rows_of p node) → (several || nat_lt (place + 1) length') ≡ is_round p node
  round_told place length' stands long =
      ap₂ (λ (s : Bool) (n : ℕ). s || nat_lt (place + 1) n) parts long
      ∙ sym (round_at (rows_of p node) place differ stands (nat_lt 1 (parts_of p)))

  -- rounds stands nowhere
  pub no_round : (Contains (rows_of p node) (rounds p.stage) → ⊥) → false ≡ is_round p node
  no_round nowhere =
      let rows = rows_of p node in
      let none : (i : ℕ) → i < length rows → get_or rows i [] ≢ rounds p.stage = λ i inside is. nowhere (i, inside, get_or_default rows i (rounds p.stage) [] inside ∙ is) in
      sym (ap₂ (λ a b. a || (b && nat_lt 1 (parts_of p))) (not_before (rounds p.stage) rows (λ i low. none i (omega (arith, low)))) (not_at_last (rounds p.stage) rows none))
