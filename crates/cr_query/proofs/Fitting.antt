-- What cells fix says which rows they fit.
use Rattle.std.proofs.Common.{◌≡◌, ℕ, suc, ◌+◌, ◌-◌, ◌<◌, ◌≤◌, Bool, true, false, cond, ◌&&◌, List, [], ◌∷◌, length, get_or, drop, All, count_by, map, nat_eq, inl, inr, refl, sym, ap, ap₂, ◌∙◌, subst, arith, add-one, drop-cons}
use Rattle.std.specs.List.{list_all, list_any, range_with_len}
use Rattle.std.proofs.lemmas.Bool.{cases_eq}
use Rattle.std.proofs.lemmas.List.{drop_all, drop-drop, length-drop, length-map, get_or-map}
use Rattle.std.proofs.lemmas.List.Elements.{All-nil, All-cons, All-head, All-tail, All-map, All-weaker, All-from_get_or}
use Rattle.std.proofs.lemmas.List.Folds.{list_any_none, list_any_at}
use Rattle.std.proofs.lemmas.List.FromFn.{get_or-range_with_len, length-range_with_len}
use Rattle.std.proofs.lemmas.List.Sums.{sum_by-cons, count_by-le-length}
use Rattle.cr_model.specs.declared.query.Cell.{Cell}
use Rattle.cr_model.specs.declared.query.Cell.TheVariants as cell
use Rattle.cr_model.specs.Right.{is_run, FitsStage}
use Rattle.cr_model.specs.Queries.{fits, rows_fitting}
use Rattle.cr_row.specs.Rows.{product}
use Rattle.cr_query.specs.declared.fixing.Fixed.{Fixed}
use Rattle.cr_query.specs.Fixing.{place_after, fixed_from, HasRoom, is_at}
use Rattle.cr_query.specs.Shapes.{shape_of, has_shape}

-- how many runs there are with a cell in front
runs_more : (first : Cell) (cells : List Cell) → count_by is_run (first ∷ cells) ≡ cond (is_run first) 1 0 + count_by is_run cells
runs_more first cells = sum_by-cons (λ c. cond (is_run c) 1 0) first cells

-- cells without a run fit only as many bells as they are
too_long : (cells : List Cell) (bells : List ℕ) → count_by is_run cells ≡ 0 → (length bells ≡ length cells → ⊥) → fits cells bells ≡ false
too_long [] [] none other = absurd (other refl)
too_long [] (bell ∷ bells) none other = refl
too_long (cell.Bell b ∷ cells) [] none other = refl
too_long (cell.Bell b ∷ cells) (bell ∷ bells) none other = by (nat_eq b bell) (too_long cells bells (omega (arith, runs_more (cell.Bell b) cells)) (λ e. other (ap suc e)))
  where
    by : (first : Bool) → fits cells bells ≡ false → (first && fits cells bells) ≡ false
    by true rest = rest
    by false rest = refl
too_long (cell.Any ∷ cells) [] none other = refl
too_long (cell.Any ∷ cells) (bell ∷ bells) none other = too_long cells bells (omega (arith, runs_more cell.Any cells)) (λ e. other (ap suc e))
too_long (cell.Run ∷ cells) bells none other = absurd (omega (arith, runs_more cell.Run cells))

-- after a run the cells that are left fit the last bells, or none
after_run : (cells : List Cell) (bells : List ℕ) → count_by is_run cells ≡ 0 → length cells ≤ length bells
    → fits (cell.Run ∷ cells) bells ≡ fits cells (drop (length bells - length cells) bells)
after_run cells bells none few = by (fits cells (drop at bells)) refl
  where
    at : ℕ
    at = length bells - length cells

    test : ℕ → Bool
    test number = fits cells (drop number bells)

    range : List ℕ
    range = range_with_len 0 (length bells + 1)

    here : get_or range at 0 ≡ at
    here = get_or-range_with_len 0 (length bells + 1) at 0 (omega arith) ∙ omega arith

    by : (b : Bool) → fits cells (drop at bells) ≡ b → list_any test range ≡ b
    by true h = list_any_at test range at 0 (omega (arith, length-range_with_len 0 (length bells + 1))) (ap test here ∙ h)
    by false h = list_any_none test range (All-from_get_or (λ number. test number ≡ false) range 0 each)
      where
        each : (i : ℕ) → i < length range → test (get_or range i 0) ≡ false
        each i inside =
            let is : get_or range i 0 ≡ i = get_or-range_with_len 0 (length bells + 1) i 0 (omega (arith, length-range_with_len 0 (length bells + 1))) ∙ omega arith in
            ap test is ∙ elim (cases_eq i at) [
              | inl e ↦ ap test e ∙ h
              | inr e ↦ too_long cells (drop i bells) none (λ same. e (omega (arith, length-drop i bells, length-range_with_len 0 (length bells + 1))))
            ]

-- the rest of a row, from a place on
from_place : (row : List ℕ) (place : ℕ) → place < length row → drop place row ≡ get_or row place 0 ∷ drop (place + 1) row
from_place row place inside = rw add-one (drop-cons row place 0 inside)

-- room for a cell leaves room for the next ones
pub room_after : (stage place : ℕ) (first : Cell) (cells : List Cell) → HasRoom stage place (first ∷ cells) → HasRoom stage (place_after stage place (length cells) first) cells
room_after stage place (cell.Bell b) cells room = elim room [
  | inl none ↦ inl (omega (arith, runs_more (cell.Bell b) cells), omega arith)
  | inr one ↦ inr (omega (arith, runs_more (cell.Bell b) cells), omega arith)
]
room_after stage place cell.Any cells room = elim room [
  | inl none ↦ inl (omega (arith, runs_more cell.Any cells), omega arith)
  | inr one ↦ inr (omega (arith, runs_more cell.Any cells), omega arith)
]
room_after stage place cell.Run cells room = elim room [
  | inl none ↦ absurd (omega (arith, runs_more cell.Run cells))
  | inr one ↦ inl (omega (arith, runs_more cell.Run cells), omega arith)
]

-- so many cells are left at most
pub few_left : (stage place : ℕ) (first : Cell) (cells : List Cell) → HasRoom stage place (first ∷ cells) → place + length cells ≤ stage
few_left stage place first cells room = elim room [
  | inl none ↦ omega arith
  | inr one ↦ omega arith
]

-- a cell that is no run stands at a place of the row
inside_row : (stage place : ℕ) (first : Cell) (cells : List Cell) → is_run first ≡ false → HasRoom stage place (first ∷ cells) → place < stage
inside_row stage place first cells plain room =
    let no_run : cond {A = ℕ} (is_run first) 1 0 ≡ 0 = ap (λ b. cond b 1 0) plain in
    elim room [
      | inl none ↦ omega arith
      | inr one ↦ omega (arith, runs_more first cells, count_by-le-length is_run cells)
    ]

-- cells fit the rest of a row where it has what they fix
fits_rest : (row : List ℕ) (place : ℕ) (cells : List Cell) → HasRoom (length row) place cells
    → fits cells (drop place row) ≡ list_all (is_at row) (fixed_from (length row) place cells)
fits_rest row place [] room = elim room [
  | inl none ↦ ap (fits []) (drop_all place row (omega arith))
  | inr one ↦ absurd (omega arith)
]
fits_rest row place (cell.Bell b ∷ cells) room =
    ap (fits (cell.Bell b ∷ cells)) (from_place row place (inside_row (length row) place (cell.Bell b) cells refl room))
    ∙ ap (λ rest. nat_eq b (get_or row place 0) && rest) (fits_rest row (place + 1) cells (room_after (length row) place (cell.Bell b) cells room))
fits_rest row place (cell.Any ∷ cells) room =
    ap (fits (cell.Any ∷ cells)) (from_place row place (inside_row (length row) place cell.Any cells refl room))
    ∙ fits_rest row (place + 1) cells (room_after (length row) place cell.Any cells room)
fits_rest row place (cell.Run ∷ cells) room = elim room [
  | inl none ↦ absurd (omega (arith, runs_more cell.Run cells))
  | inr one ↦
      let long : length (drop place row) ≡ length row - place = length-drop place row in
      let at : place + (length (drop place row) - length cells) ≡ length row - length cells = omega arith in
      after_run cells (drop place row) (omega (arith, runs_more cell.Run cells)) (omega arith)
      ∙ ap (fits cells) (drop-drop (length (drop place row) - length cells) place row ∙ ap (λ n. drop n row) at)
      ∙ fits_rest row (length row - length cells) cells (room_after (length row) place cell.Run cells (inr one))
]

-- cells that fit the stage have room from the first place on
pub room_of : (stage : ℕ) (cells : List Cell) → FitsStage stage cells → HasRoom stage 0 cells
room_of stage cells fitting = elim fitting [
  | inl none ↦ inl (none.0, omega arith)
  | inr one ↦ inr (one.0, omega arith)
]

-- the cells of a pattern fit a row where it has their shape
pub fits_shape : (stage : ℕ) (cells : List Cell) (row : List ℕ) → length row ≡ stage → FitsStage stage cells
    → has_shape (shape_of stage cells) row ≡ fits cells row
fits_shape stage cells row long fitting =
    let room : HasRoom (length row) 0 cells = subst (λ n. HasRoom n 0 cells) (sym long) (room_of stage cells fitting) in
    ap (λ n. list_all (is_at row) (fixed_from n 0 cells)) (sym long) ∙ sym (fits_rest row 0 cells room)

-- how many of some rows fit them
pub count_fitting : (stage : ℕ) (cells : List Cell) (rows : List (List ℕ)) → All (λ row. length row ≡ stage) rows → FitsStage stage cells
    → count_by (has_shape (shape_of stage cells)) rows ≡ rows_fitting cells rows
count_fitting stage cells [] long fitting = refl
count_fitting stage cells (row ∷ rows) long fitting =
    sum_by-cons (λ r. cond (has_shape (shape_of stage cells) r) 1 0) row rows
    ∙ ap₂ (λ b n. cond b 1 0 + n)
    (fits_shape stage cells row (All-head (λ r. length r ≡ stage) row rows long) fitting)
    (count_fitting stage cells rows (All-tail (λ r. length r ≡ stage) row rows long) fitting)
    ∙ sym (sum_by-cons (λ r. cond (fits cells r) 1 0) row rows)

-- a count over mapped items
pub count_mapped : {X Y : Type 0} (test : Y → Bool) (f : X → Y) (xs : List X) → count_by test (map f xs) ≡ count_by (λ x. test (f x)) xs
count_mapped test f [] = refl
count_mapped test f (x ∷ xs) =
    sum_by-cons (λ y. cond (test y) 1 0) (f x) (map f xs)
    ∙ ap (λ n. cond (test (f x)) 1 0 + n) (count_mapped test f xs)
    ∙ sym (sum_by-cons (λ y. cond (test (f y)) 1 0) x xs)

-- products with a head are as long as the rows
pub products_long : (stage : ℕ) (head : List ℕ) (rows : List (List ℕ)) → All (λ row. length row ≡ stage) rows → All (λ row. length row ≡ stage) (map (product head) rows)
products_long stage head rows long =
    All-map (λ row. length row ≡ stage) (product head) rows
    (All-weaker (λ row. length row ≡ stage) (λ row. length (product head row) ≡ stage) (λ row is. length-map row (λ b. get_or head (b - 1) 0) ∙ is) rows long)

-- the bell of a product at a place
pub product_at : (head row : List ℕ) (place : ℕ) → place < length row → get_or (product head row) place 0 ≡ get_or head (get_or row place 0 - 1) 0
product_at head row place inside = get_or-map (λ b. get_or head (b - 1) 0) row place 0 0 inside

-- what is fixed stands within the stage
fixed_within : (stage place : ℕ) (cells : List Cell) → HasRoom stage place cells → All (λ (fixed : Fixed). fixed.place < stage) (fixed_from stage place cells)
fixed_within stage place [] room = All-nil (λ (fixed : Fixed). fixed.place < stage)
fixed_within stage place (cell.Bell b ∷ cells) room =
    All-cons (λ (fixed : Fixed). fixed.place < stage) (record { place = place; bell = b }) (fixed_from stage (place + 1) cells)
    (inside_row stage place (cell.Bell b) cells refl room) (fixed_within stage (place + 1) cells (room_after stage place (cell.Bell b) cells room))
fixed_within stage place (cell.Any ∷ cells) room = fixed_within stage (place + 1) cells (room_after stage place cell.Any cells room)
fixed_within stage place (cell.Run ∷ cells) room = fixed_within stage (stage - length cells) cells (room_after stage place cell.Run cells room)

pub shape_within : (stage : ℕ) (cells : List Cell) → FitsStage stage cells → All (λ (fixed : Fixed). fixed.place < stage) (shape_of stage cells).fixed
shape_within stage cells fitting = fixed_within stage 0 cells (room_of stage cells fitting)
