-- What is told of slices one after another is told of all.
use Rattle.std.proofs.Common.{◌≡◌, ℕ, suc, ◌+◌, ◌-◌, ◌<◌, ◌≤◌, List, [], ◌∷◌, ◌++◌, length, get_or, drop, All, Option, Some, None, inl, inr, refl, sym, ◌∙◌, subst, arith}
use Rattle.std.specs.Prelude.{IfOk, Ok, Err}
use Rattle.std.specs.List.{slice_range}
use Rattle.std.specs.declared.result.Result.{Result}
use Rattle.std.proofs.lemmas.Bool.{cases_lt}
use Rattle.std.proofs.lemmas.List.{get_or-take, get_or-drop, length-take-le, length-drop}
use Rattle.std.proofs.lemmas.List.Elements.{All-head, All-tail, All-push}
use Rattle.std.proofs.lemmas.Result.{IfOk-weaker}
use Rattle.cr_model.specs.Checks.{IsFirstWrong, TellsFirst}
use Rattle.cr_explore.specs.declared.slices.Slice.{Slice}
use Rattle.cr_explore.specs.Slices.{IsSlice, Adjoin, RightFrom, first_told}

-- of a list that is cut in two the front is right: then what is told of the back is told of both
right_before : (P : ℕ → Type 0) (start middle long : ℕ) (told : Option ℕ) → start ≤ middle → ((i : ℕ) → i < middle → RightFrom P start i)
    → TellsFirst (RightFrom P middle) long told → TellsFirst (RightFrom P start) long told
right_before P start middle long None low front back = λ i inside from. elim (cases_lt i middle) [
  | inl before ↦ front i before from
  | inr behind ↦ back i inside behind
]
right_before P start middle long (Some index) low front back = record {
  within = back.within;
  before = λ i below from. elim (cases_lt i middle) [
    | inl before ↦ front i before from
    | inr behind ↦ back.before i below behind
  ];
  wrong = λ right. back.wrong (λ from. right (omega (arith, low, from)));
}

-- the front is wrong: then what is told of it is told of both
wrong_before : (P : ℕ → Type 0) (start middle long index : ℕ) → middle ≤ long → IsFirstWrong (RightFrom P start) middle index → IsFirstWrong (RightFrom P start) long index
wrong_before P start middle long index low front = record {
  within = omega (arith, low, front.within);
  before = front.before;
  wrong = front.wrong;
}

-- what is told of each slice
first_of_slices : {E : Type 0} (P : ℕ → Type 0) (long start : ℕ) (slices : List Slice) (told : List (Result (Option ℕ) E)) → length told ≡ length slices
    → Adjoin start slices long → All (IsSlice long) slices
    → ((i : ℕ) (d : Result (Option ℕ) E) → i < length slices → (slice : Slice) × ((s : Slice) → get_or slices i s ≡ slice) × IfOk (get_or told i d) (TellsFirst (RightFrom P slice.start) slice.end))
    → IfOk (first_told told) (TellsFirst (RightFrom P start) long)
first_of_slices P long start [] [] many adjoin are each = λ i inside from. absurd (omega (arith, adjoin, inside, from))
first_of_slices P long start [] (one ∷ told) many adjoin are each = absurd (omega (arith, many))
first_of_slices P long start (slice ∷ slices) [] many adjoin are each = absurd (omega (arith, many))
first_of_slices P long start (slice ∷ slices) (Err why ∷ told) many adjoin are each = tt
first_of_slices P long start (slice ∷ slices) (Ok (Some index) ∷ told) many adjoin are each =
    let first = each 0 (Ok (Some index)) (omega arith) in
    let wrong = subst (λ (s : Slice). IsFirstWrong (RightFrom P s.start) s.end index) (sym (first.1 slice)) first.2 in
    subst (λ (s : ℕ). IsFirstWrong (RightFrom P s) long index) adjoin.0
    (wrong_before P slice.start slice.end long index (All-head (IsSlice long) slice slices are).inside wrong)
first_of_slices P long start (slice ∷ slices) (Ok None ∷ told) many adjoin are each =
    let first = each 0 (Ok None) (omega arith) in
    let right = subst (λ (s : Slice). (i : ℕ) → i < s.end → RightFrom P s.start i) (sym (first.1 slice)) first.2 in
    let rest = first_of_slices P long slice.end slices told (omega (arith, many)) adjoin.1 (All-tail (IsSlice long) slice slices are)
    (λ i d inside. each (suc i) d (omega (arith, inside))) in
    subst (λ (s : ℕ). IfOk (first_told told) (TellsFirst (RightFrom P s) long)) adjoin.0
    (IfOk-weaker (first_told told) (TellsFirst (RightFrom P slice.end) long) (TellsFirst (RightFrom P slice.start) long)
    (λ found is. right_before P slice.start slice.end long found (All-head (IsSlice long) slice slices are).order right is) rest)

-- from the start on is everywhere
from_start : (P : ℕ → Type 0) (long : ℕ) (told : Option ℕ) → TellsFirst (RightFrom P 0) long told → TellsFirst P long told
from_start P long None right = λ i inside. right i inside (omega arith)
from_start P long (Some index) first = record {
  within = first.within;
  before = λ i below. first.before i below (omega arith);
  wrong = λ right. first.wrong (λ from. right);
}

pub first_of_all : {E : Type 0} (P : ℕ → Type 0) (long : ℕ) (slices : List Slice) (told : List (Result (Option ℕ) E)) → length told ≡ length slices
    → Adjoin 0 slices long → All (IsSlice long) slices
    → ((i : ℕ) (d : Result (Option ℕ) E) → i < length slices → (slice : Slice) × ((s : Slice) → get_or slices i s ≡ slice) × IfOk (get_or told i d) (TellsFirst (RightFrom P slice.start) slice.end))
    → IfOk (first_told told) (TellsFirst P long)
first_of_all P long slices told many adjoin are each =
    IfOk-weaker (first_told told) (TellsFirst (RightFrom P 0) long) (TellsFirst P long) (from_start P long) (first_of_slices P long 0 slices told many adjoin are each)

-- one slice more
adjoined : (start : ℕ) (slices : List Slice) (slice : Slice) → Adjoin start slices slice.start → Adjoin start (slices ++ slice ∷ []) slice.end
adjoined start [] slice is = (sym is, refl)
adjoined start (first ∷ slices) slice is = (is.0, adjoined first.end slices slice is.1)

pub adjoin_more : (start : ℕ) (slices now : List Slice) (slice : Slice) → Adjoin start slices slice.start → now ≡ slices ++ slice ∷ [] → Adjoin start now slice.end
adjoin_more start slices now slice is more = subst (λ all. Adjoin start all slice.end) (sym more) (adjoined start slices slice is)

pub slice_more : (long : ℕ) (slices now : List Slice) (slice : Slice) → All (IsSlice long) slices → IsSlice long slice → now ≡ slices ++ slice ∷ [] → All (IsSlice long) now
slice_more long slices now slice all one more = subst (All (IsSlice long)) (sym more) (All-push (IsSlice long) slices slice all one)

-- what is told of a slice as a list of its own, counted on
module _ (P : List ℕ → Type 0) (xs : List (List ℕ)) (start end : ℕ) (order : start ≤ end) (inside : end ≤ length xs) where
  pub slice_long : length (slice_range xs start end) ≡ end - start
  slice_long = length-take-le (end - start) (drop start xs) (omega (arith, length-drop start xs, inside))

  slice_item : (i : ℕ) → i < end - start → get_or (slice_range xs start end) i [] ≡ get_or xs (start + i) []
  slice_item i low = get_or-take (end - start) (drop start xs) i [] low ∙ get_or-drop start xs i []

  -- an item of the slice is right by its place among all
  right_at : (i : ℕ) → start ≤ i → i < end → P (get_or (slice_range xs start end) (i - start) []) → P (get_or xs i [])
  right_at i from below right =
      let place : start + (i - start) ≡ i = omega (arith, from) in
      let low : i - start < end - start = omega (arith, from, below) in
      subst (λ (k : ℕ). P (get_or xs k [])) place (subst P (slice_item (i - start) low) right)

  pub right_in : ((i : ℕ) → i < length (slice_range xs start end) → P (get_or (slice_range xs start end) i []))
      → (i : ℕ) → i < end → RightFrom (λ j. P (get_or xs j [])) start i
  right_in right i below from = right_at i from below (right (i - start) (omega (arith, from, below, slice_long)))

  pub wrong_in : (index : ℕ) → IsFirstWrong (λ i. P (get_or (slice_range xs start end) i [])) (length (slice_range xs start end)) index
      → IsFirstWrong (RightFrom (λ j. P (get_or xs j [])) start) end (start + index)
  wrong_in index first =
      let low : index < end - start = omega (arith, first.within, slice_long) in
      record {
        within = omega (arith, low);
        before = λ i below from. right_at i from (omega (arith, below, low)) (first.before (i - start) (omega (arith, from, below)));
        wrong = λ right. first.wrong (subst P (sym (slice_item index low)) (right (omega arith)));
      }
