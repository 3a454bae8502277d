-- Rows that are new to some rows, and rows one lead before some rows.
use Rattle.std.proofs.Common.{◌≡◌, ◌≢◌, ℕ, ◌+◌, ◌<◌, ◌⊎◌, ◌↔◌, Bool, true, false, cond, List, [], ◌∷◌, ◌++◌, length, get_or, map, flat_map, All, Contains, Decides, bytes_eq, inl, inr, refl, sym, ◌∙◌, subst, arith}
use Rattle.std.specs.List.{range_with_len}
use Rattle.std.proofs.lemmas.Bool.{false≢true}
use Rattle.std.proofs.lemmas.Bool.Decides.{Decides-or, Decides-like}
use Rattle.std.proofs.lemmas.List.Elements.{Contains-append_cases}
use Rattle.std.proofs.lemmas.List.FromFn.{get_or-range_with_len, length-range_with_len}
use Rattle.std.proofs.lemmas.Slice.Eq.{bytes_eq-Decides}
use Rattle.cr_model.specs.Problems.{ProblemParts}
use Rattle.cr_model.specs.Callings.{AllDiffer}
use Rattle.cr_model.specs.Levels.{row_before, rows_before, is_listed, new_rows}
use Rattle.cr_model.proofs.Deciding.{one_more_differs, one_less_differs}
use Rattle.cr_model.proofs.InOrder.{contains_cases, contains_more, none_held}
use Rattle.cr_model.proofs.Listed.{held_first, held_mapped, held_joined, all_from_held}

-- the test of a row among some
pub listed_decided : (rows : List (List ℕ)) (row : List ℕ) → Decides (is_listed rows row) (Contains rows row)
listed_decided [] row = (λ h. absurd (false≢true h), λ held. absurd (none_held row held))
listed_decided (other ∷ rows) row =
    Decides-like (is_listed (other ∷ rows) row)
    (λ h. elim h [ inl e ↦ subst (Contains (other ∷ rows)) (sym e) (held_first other rows) | inr later ↦ contains_more other row rows later ])
    (λ held. elim (contains_cases other row rows held) [ inl e ↦ inl (sym e) | inr later ↦ inr later ])
    (Decides-or (bytes_eq row other) (is_listed rows row) (bytes_eq-Decides row other) (listed_decided rows row))

-- a row is among some or not
pub held_or_not : (rows : List (List ℕ)) (row : List ℕ) → Contains rows row ⊎ (Contains rows row → ⊥)
held_or_not rows row = by (is_listed rows row) refl
  where
    by : (b : Bool) → is_listed rows row ≡ b → Contains rows row ⊎ (Contains rows row → ⊥)
    by true h = inl ((listed_decided rows row).0 h)
    by false h = inr (λ held. false≢true (sym h ∙ (listed_decided rows row).1 held))

module _ (seen : List (List ℕ)) (row : List ℕ) (rows : List (List ℕ)) where
  -- a row in front, that was seen
  old_first : Contains seen row → (other : List ℕ) → (Contains rows other × (Contains (row ∷ seen) other → ⊥)) ↔ (Contains (row ∷ rows) other × (Contains seen other → ⊥))
  old_first old other = (
    λ h. (contains_more row other rows h.0, λ held. h.1 (contains_more row other seen held)),
    λ h. elim (contains_cases row other rows h.0) [
      | inl e ↦ absurd (h.1 (subst (Contains seen) e old))
      | inr later ↦ (later, λ held. elim (contains_cases row other seen held) [ inl e ↦ h.1 (subst (Contains seen) e old) | inr before ↦ h.1 before ])
    ],
  )

  -- a row in front, that is new
  new_first : (Contains seen row → ⊥) → (found : List (List ℕ)) → ((other : List ℕ) → Contains found other ↔ (Contains rows other × (Contains (row ∷ seen) other → ⊥))) → (other : List ℕ) → Contains (row ∷ found) other ↔ (Contains (row ∷ rows) other × (Contains seen other → ⊥))
  new_first new found holds other = (
    λ held. elim (contains_cases row other found held) [
      | inl e ↦ (subst (Contains (row ∷ rows)) e (held_first row rows), λ old. new (subst (Contains seen) (sym e) old))
      | inr later ↦ let both = (holds other).0 later in (contains_more row other rows both.0, λ old. both.1 (contains_more row other seen old))
    ],
    λ h. elim (contains_cases row other rows h.0) [
      | inl e ↦ subst (Contains (row ∷ found)) e (held_first row found)
      | inr later ↦ elim (held_or_not (row ∷ []) other) [
        | inl same ↦ elim (contains_cases row other [] same) [ inl e ↦ subst (Contains (row ∷ found)) e (held_first row found) | inr none ↦ absurd (none_held other none) ]
        | inr differs ↦ contains_more row other found ((holds other).1 (later, λ held. elim (contains_cases row other seen held) [ inl e ↦ differs (subst (Contains (row ∷ [])) e (held_first row [])) | inr old ↦ h.1 old ]))
      ]
    ],
  )

-- the new rows are those that were not seen
pub new_rows_are : (seen rows : List (List ℕ)) (row : List ℕ) → Contains (new_rows seen rows) row ↔ (Contains rows row × (Contains seen row → ⊥))
new_rows_are seen [] row = (λ held. absurd (none_held row held), λ h. absurd (none_held row h.0))
new_rows_are seen (first ∷ rows) row = by (is_listed seen first) refl (new_rows_are (first ∷ seen) rows)
  where
    by : (b : Bool) → is_listed seen first ≡ b → ((other : List ℕ) → Contains (new_rows (first ∷ seen) rows) other ↔ (Contains rows other × (Contains (first ∷ seen) other → ⊥)))
        → Contains (cond b [] (first ∷ []) ++ new_rows (first ∷ seen) rows) row ↔ (Contains (first ∷ rows) row × (Contains seen row → ⊥))
    by true h holds =
        let both = old_first seen first rows ((listed_decided seen first).0 h) row in
        (λ held. both.0 ((holds row).0 held), λ h'. (holds row).1 (both.1 h'))
    by false h holds = new_first seen first rows (λ old. false≢true (sym h ∙ (listed_decided seen first).1 old)) (new_rows (first ∷ seen) rows) holds row

-- a joined list of rows that differ
pub differ_joined : (rows more : List (List ℕ)) → AllDiffer rows → AllDiffer more → ((row : List ℕ) → Contains rows row → Contains more row → ⊥) → AllDiffer (rows ++ more)
differ_joined [] more one two apart = two
differ_joined (row ∷ rows) more one two apart =
    let both : All (λ other. row ≢ other) rows × AllDiffer rows = one_less_differs row rows one in
    let rest : AllDiffer (rows ++ more) = differ_joined rows more both.1 two (λ other held there. apart other (contains_more row other rows held) there) in
    one_more_differs row (rows ++ more) (
      all_from_held (λ other. row ≢ other) (rows ++ more) (λ other held e. elim (Contains-append_cases rows more other held) [
        | inl here ↦ let at : Contains rows row = subst (Contains rows) (sym e) here in both.0 at.0 row at.1 (sym at.2)
        | inr there ↦ apart row (held_first row rows) (subst (Contains more) (sym e) there)
      ]),
      rest,
    )

-- new rows differ
pub new_rows_differ : (seen rows : List (List ℕ)) → AllDiffer (new_rows seen rows)
new_rows_differ seen [] = λ i j less inside. absurd (omega arith)
new_rows_differ seen (row ∷ rows) = by (is_listed seen row) (new_rows_differ (row ∷ seen) rows)
  where
    apart : All (λ other. row ≢ other) (new_rows (row ∷ seen) rows)
    apart = all_from_held (λ other. row ≢ other) (new_rows (row ∷ seen) rows) (λ other held e. ((new_rows_are (row ∷ seen) rows other).0 held).1 (subst (Contains (row ∷ seen)) e (held_first row seen)))

    by : (b : Bool) → AllDiffer (new_rows (row ∷ seen) rows) → AllDiffer (cond b [] (row ∷ []) ++ new_rows (row ∷ seen) rows)
    by true rest = rest
    by false rest = one_more_differs row (new_rows (row ∷ seen) rows) (apart, rest)

-- an element of a mapped list comes from one of the list
from_mapped : {X Y : Type 0} (f : X → Y) (xs : List X) (y : Y) → Contains (map f xs) y → (x : X) × Contains xs x × (f x ≡ y)
from_mapped f [] y held = absurd (none_held y held)
from_mapped f (x ∷ xs) y held = elim (contains_cases (f x) y (map f xs) held) [
  | inl e ↦ (x, held_first x xs, e)
  | inr later ↦ let (z, at, is) = from_mapped f xs y later in (z, contains_more x z xs at, is)
]

-- an element of joined lists comes from one of them
from_joined : {X Y : Type 0} (f : X → List Y) (xs : List X) (y : Y) → Contains (flat_map f xs) y → (x : X) × Contains xs x × Contains (f x) y
from_joined f [] y held = absurd (none_held y held)
from_joined f (x ∷ xs) y held = elim (Contains-append_cases (f x) (flat_map f xs) y held) [
  | inl here ↦ (x, held_first x xs, here)
  | inr later ↦ let (z, at, is) = from_joined f xs y later in (z, contains_more x z xs at, is)
]

-- a step of a range
pub step_listed : (n step : ℕ) → step < n → Contains (range_with_len 0 n) step
step_listed n step inside = (step, omega (arith, length-range_with_len 0 n), get_or-range_with_len 0 n step step inside ∙ omega arith)

pub listed_step : (n step : ℕ) → Contains (range_with_len 0 n) step → step < n
listed_step n step held =
    let short : held.0 < n = omega (arith, length-range_with_len 0 n) in
    let at : get_or (range_with_len 0 n) held.0 step ≡ 0 + held.0 = get_or-range_with_len 0 n held.0 step short in
    omega arith

-- the rows one lead before some rows
pub rows_before_are : (p : ProblemParts) (rows : List (List ℕ)) (row : List ℕ) → Contains (rows_before p rows) row
    ↔ ((next : List ℕ) × (step : ℕ) × Contains rows next × (step < length p.leads) × (row_before p next step ≡ row))
rows_before_are p rows row = (
  λ held.
      let (next, at, inside) = from_joined (λ r. map (row_before p r) (range_with_len 0 (length p.leads))) rows row held in
      let (step, here, is) = from_mapped (row_before p next) (range_with_len 0 (length p.leads)) row inside in
      (next, step, at, listed_step (length p.leads) step here, is),
  λ h.
      held_joined (λ r. map (row_before p r) (range_with_len 0 (length p.leads))) h.0 row rows h.2
      (subst (Contains (map (row_before p h.0) (range_with_len 0 (length p.leads)))) h.4
      (held_mapped (row_before p h.0) h.1 (range_with_len 0 (length p.leads)) (step_listed (length p.leads) h.1 h.3))),
)
