-- Cells put down one after another.
use Rattle.std.proofs.Common.{◌≡◌, ℕ, ◌+◌, ◌-◌, ◌*◌, ◌<◌, ◌≤◌, cond, List, [], ◌∷◌, ◌++◌, length, Option, Some, None, refl, sym, ap, ◌∙◌, subst, inl, inr, arith, length-append}
use Rattle.std.proofs.lemmas.Bool.{cases_lt, le-leb, lt-leb}
use Rattle.std.proofs.lemmas.List.{get_or_append_left, get_or_push}
use Rattle.std.proofs.lemmas.Nat.{mul-add-lt, same_from_place}
use Rattle.cr_ahead.specs.declared.gains.Gains.{Gains}
use Rattle.cr_ahead.specs.Moves.{MovesParts, places_of}
use Rattle.cr_ahead.specs.Ways.{IsAnswer}
use Rattle.cr_ahead.specs.Cells.{told_by, cell_of}
use Rattle.cr_ahead.specs.Tables.{AheadParts, cell_at, answer_at, IsAhead}
use Rattle.cr_ahead.specs.Rows.{IsFew, AreFew, AreRight}

-- a cell tells what it was made of
pub told_back : (left : ℕ) (gains : Option Gains) → IsFew left gains → told_by (cell_of gains) ≡ gains
told_back left None few = refl
told_back left (Some g) few = ap (λ b. cond b (Some g) None) (le-leb g.least g.greatest few.0)

no_cell : Gains
no_cell = record { least = 0; greatest = 0 }

-- what holds of each cell, and of one more
module _ (places : ℕ) (Holds : ℕ → ℕ → Option Gains → Type 0) (cells : List Gains) (left place : ℕ) (gains : Option Gains)
    (within : place < places) (counted : length cells ≡ left * places + place) (few : IsFew left gains) where
  pub one_cell_more : ((l p : ℕ) → p < places → l * places + p < length cells → Holds l p (told_by (cell_at cells places l p)))
      → Holds left place gains
      → (l p : ℕ) → p < places → l * places + p < length (cells ++ cell_of gains ∷ []) → Holds l p (told_by (cell_at (cells ++ cell_of gains ∷ []) places l p))
  one_cell_more each one l p low inside =
      elim (cases_lt (l * places + p) (length cells)) [
        | inl before ↦ subst (λ (cell : Gains). Holds l p (told_by cell))
            (sym (get_or_append_left cells (cell_of gains ∷ []) (record { least = 0; greatest = 0 }) (l * places + p) before)) (each l p low before)
        | inr after ↦
            let long : length (cells ++ cell_of gains ∷ []) ≡ length cells + 1 = length-append cells (cell_of gains ∷ []) in
            let at : left * places + place ≡ l * places + p = omega (arith, long, inside, after, counted) in
            let same = same_from_place left place l p places within low at in
            let is : cell_at (cells ++ cell_of gains ∷ []) places l p ≡ cell_of gains =
            get_or_push cells (cell_of gains) (record { least = 0; greatest = 0 }) (l * places + p) (counted ∙ at) in
            subst (λ (cell : Gains). Holds l p (told_by cell)) (sym is)
            (subst (λ (answer : Option Gains). Holds l p answer) (sym (told_back left gains few))
            (subst (λ (n : ℕ). Holds n p gains) same.0 (subst (λ (n : ℕ). Holds left n gains) same.1 one)))
      ]

pub few_more : (places : ℕ) (cells : List Gains) (left place : ℕ) (gains : Option Gains) → place < places → length cells ≡ left * places + place
    → IsFew left gains → AreFew places cells → AreFew places (cells ++ cell_of gains ∷ [])
few_more places cells left place gains within counted few all = record {
  each = one_cell_more places (λ l p answer. IsFew l answer) cells left place gains within counted few all.each few;
}

pub right_more : (m : MovesParts) (least greatest : ℕ) (cells : List Gains) (left place : ℕ) (gains : Option Gains) → place < places_of m
    → length cells ≡ left * places_of m + place → IsFew left gains → IsAnswer m least greatest place (greatest - left) gains
    → AreRight m least greatest cells → AreRight m least greatest (cells ++ cell_of gains ∷ [])
right_more m least greatest cells left place gains within counted few is right = record {
  each = λ l p short low inside.
      one_cell_more (places_of m) (λ l p answer. l ≤ greatest → IsAnswer m least greatest p (greatest - l) answer) cells left place gains within counted few
      (λ l p low inside short. right.each l p short low inside) (λ short. is) l p low inside short;
}

-- all cells make the table
pub all_cells : (m : MovesParts) (least greatest : ℕ) (cells : List Gains) → length cells ≡ (greatest + 1) * places_of m → AreRight m least greatest cells
    → IsAhead m least greatest (record { places = places_of m; greatest = greatest; cells = cells })
all_cells m least greatest cells counted right = record {
  places = refl;
  answers = λ place long within. elim (cases_lt greatest long) [
    | inl beyond ↦
        let none : None ≡ answer_at (record { places = places_of m; greatest = greatest; cells = cells }) place long =
        ap (λ b. cond b (told_by (cell_at cells (places_of m) (greatest - long) place)) None) (sym (lt-leb long greatest beyond)) in
        subst (IsAnswer m least greatest place long) none (λ steps way. absurd (omega (arith, way.at_most)))
    | inr low ↦
        let back : greatest - (greatest - long) ≡ long = omega arith in
        let at : (greatest - long) * places_of m + place < places_of m * (greatest + 1) = mul-add-lt (greatest - long) (places_of m) place (greatest + 1) (omega arith) within in
        let told = right.each (greatest - long) place (omega arith) within (omega (arith, at, counted)) in
        let some : told_by (cell_at cells (places_of m) (greatest - long) place) ≡ answer_at (record { places = places_of m; greatest = greatest; cells = cells }) place long =
        ap (λ b. cond b (told_by (cell_at cells (places_of m) (greatest - long) place)) None) (sym (le-leb long greatest low)) in
        subst (IsAnswer m least greatest place long) some
        (subst (λ (n : ℕ). IsAnswer m least greatest place n (told_by (cell_at cells (places_of m) (greatest - long) place))) back told)
  ];
}

-- what the table answers
pub answered : (m : MovesParts) (least greatest place long : ℕ) (t : AheadParts) (answer : Option Gains) → answer ≡ answer_at t place long → place < t.places
    → IsAhead m least greatest t → IsAnswer m least greatest place long answer
answered m least greatest place long t answer is within ahead =
    subst (IsAnswer m least greatest place long) (sym is) (ahead.answers place long (omega (arith, ahead.places)))
