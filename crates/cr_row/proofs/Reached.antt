-- Where each of the bells 1 to the length stands somewhere, none stands twice and no other stands at a place.
use Rattle.std.proofs.Common.{◌≡◌, ℕ, ◌+◌, ◌-◌, ◌<◌, ◌≤◌, ◌≢◌, inl, inr, eqb, true, List, length, get_or, map, ap, sym, ◌∙◌, arith}
use Rattle.std.specs.List.{Contains, list_any, remove}
use Rattle.std.proofs.lemmas.Bool.{cases_eq, cases_lt, eq-eqb}
use Rattle.std.proofs.lemmas.List.{get_or-map, length-map, get_or_default}
use Rattle.std.proofs.lemmas.List.Edits.{length-remove, get_or-remove_below, get_or-remove_above}
use Rattle.std.proofs.lemmas.List.Folds.{list_any_at}
use Rattle.std.proofs.lemmas.Map.Steps.{le-length_from_below}
use Rattle.cr_row.specs.Rows.{IsRow}

-- a bell stands at another index than i
pub record IsElsewhere (row : List ℕ) (i b : ℕ) : Type 0 where
  pub at : ℕ
  pub within : at < length row
  pub other : at ≢ i
  pub bell : get_or row at 0 ≡ b

-- without the bell at index i, one less for each
abbrev others : List ℕ → ℕ → List ℕ
others row i = map (λ b. b - 1) (remove row i)

in_others : (row : List ℕ) (i q : ℕ) → i < length row → IsElsewhere row i (q + 1)
    → list_any (eqb q) (others row i) ≡ true
in_others row i q inside elsewhere = elim (cases_lt elsewhere.at i) [
  | inl below ↦ found elsewhere.at (omega (arith, length-remove row i inside)) (get_or-remove_below row i 0 elsewhere.at below inside ∙ elsewhere.bell)
  | inr above ↦
      let back : elsewhere.at - 1 + 1 ≡ elsewhere.at = omega (arith, ne_above elsewhere.at i elsewhere.other above) in
      found (elsewhere.at - 1) (omega (arith, elsewhere.within, length-remove row i inside, ne_above elsewhere.at i elsewhere.other above))
      (get_or-remove_above row i 0 (elsewhere.at - 1) (omega (arith, ne_above elsewhere.at i elsewhere.other above)) inside ∙ ap (λ k. get_or row k 0) back ∙ elsewhere.bell)
]
  where
    ne_above : (k j : ℕ) → k ≢ j → j ≤ k → j < k
    ne_above k j other low = elim (cases_lt j k) [ inl less ↦ less | inr not' ↦ absurd (other (omega arith)) ]

    found : (k : ℕ) → k < length (remove row i) → get_or (remove row i) k 0 ≡ q + 1
        → list_any (eqb q) (others row i) ≡ true
    found k within is =
        let read : get_or (map (λ b. b - 1) (remove row i)) k 0 ≡ get_or (remove row i) k 0 - 1 = get_or-map (λ b. b - 1) (remove row i) k 0 0 within in
        list_any_at (eqb q) (map (λ b. b - 1) (remove row i)) k 0 (omega (arith, length-map (remove row i) (λ b. b - 1)))
        (eq-eqb q (get_or (map (λ b. b - 1) (remove row i)) k 0) (omega arith))

-- as many bells as places: no place is to spare
none_spare : (row : List ℕ) (i : ℕ) → i < length row → ((b : ℕ) → 0 < b → b ≤ length row → IsElsewhere row i b) → ⊥
none_spare row i inside each =
    let all : length row ≤ length (others row i) = le-length_from_below (others row i) (length row) (λ q below. in_others row i q inside (each (q + 1) (omega arith) (omega arith))) in
    omega (arith, length-map (remove row i) (λ b. b - 1), length-remove row i inside)

-- each bell stands somewhere
abbrev pub AreReached : List ℕ → ℕ → Type 0
AreReached row n = (b : ℕ) → b < n → 0 < b → Contains row b

place_of : (row : List ℕ) (b : ℕ) → Contains row b → (k : ℕ) × (k < length row) × (get_or row k 0 ≡ b)
place_of row b (k, within, at) = (k, within, get_or_default row k 0 b within ∙ at)

pub row_from_reached : (row : List ℕ) → AreReached row (length row + 1) → IsRow row
row_from_reached row each =
    let at : (b : ℕ) → 0 < b → b ≤ length row → (k : ℕ) × (k < length row) × (get_or row k 0 ≡ b) = λ b low high. place_of row b (each b (omega arith) low) in
    record {
      in_range = λ i h. elim (cases_lt 0 (get_or row i 0)) [
        | inl low ↦ elim (cases_lt (length row) (get_or row i 0)) [
          | inl high ↦ absurd (none_spare row i h (λ b some few. (let (k, within, bell) = at b some few in
              record { at = k; within = within; other = λ e. omega (arith, ap (λ j. get_or row j 0) e); bell = bell })))
          | inr few ↦ (low, few)
        ]
        | inr none ↦ absurd (none_spare row i h (λ b some few. (let (k, within, bell) = at b some few in
            record { at = k; within = within; other = λ e. omega (arith, ap (λ j. get_or row j 0) e); bell = bell })))
      ];
      apart = λ i j h g e. elim (cases_eq i j) [
        | inl same ↦ same
        | inr other ↦ absurd (none_spare row j g (λ b some few. (let (k, within, bell) = at b some few in
            elim (cases_eq k j) [
              | inl here ↦ record { at = i; within = h; other = other; bell = e ∙ sym (ap (λ l. get_or row l 0) here) ∙ bell }
              | inr there ↦ record { at = k; within = within; other = there; bell = bell }
            ])))
      ];
      reached = λ b low high. at b low high;
    }

-- and a row has each
pub reached_in_row : (row : List ℕ) (b : ℕ) → IsRow row → 0 < b → b ≤ length row → Contains row b
reached_in_row row b is low high = let (k, within, bell) = is.reached b low high in (k, within, get_or_default row k b 0 within ∙ bell)
