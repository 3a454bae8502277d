-- A number has no place exactly where it stands in no lane.
use Rattle.std.proofs.Common.{◌≡◌, ℕ, ◌+◌, ◌-◌, ◌<◌, true, false, List, [], length, get_or, Contains, Option, Some, None, is_some, option_map, ◌↔◌, inl, inr, refl, sym, ap, ◌∙◌, arith, eq-eqb, eqb-true}
use Rattle.std.proofs.lemmas.Bool.{cases_lt, true≢false, false≢true}
use Rattle.std.proofs.lemmas.Option.{none-some}
use Rattle.std.proofs.lemmas.List.{get_or-map, get_or_past, length-map}
use Rattle.cr_board.specs.Jobs.{JobParts}
use Rattle.cr_board.specs.Boards.{BoardParts, lane_at}
use Rattle.cr_board.specs.ReplayStates.{numbers_of}
use Rattle.cr_board.specs.Choices.{is_number, place_in, has_number, place_at, first_from, claim_place}
use Rattle.cr_board.specs.declared.place.Place.{Place}
use Rattle.cr_board.proofs.Finding.{found_passes, none_is, none_found}

-- a number that stands in a lane has a place there
has_place : (lane : List JobParts) (number : ℕ) → Contains (numbers_of lane) number → place_in lane number ≡ None → ⊥
has_place lane number (k, inside, at) none =
    let within : k < length lane = omega (arith, inside, length-map lane (λ j. j.number)) in
    let place : 0 + k ≡ k = omega arith in
    let fails = none_found (is_number lane number) 0 (length lane - 0) none k (omega arith) in
    let is : (get_or lane k (record { number = 0; nodes = [] })).number ≡ number = sym (get_or-map (λ j. j.number) lane k (record { number = 0; nodes = [] }) number within) ∙ at in
    true≢false (sym (eq-eqb (get_or lane k (record { number = 0; nodes = [] })).number number is) ∙ ap (is_number lane number) (sym place) ∙ fails)

-- and back
place_has : (lane : List JobParts) (number k : ℕ) → place_in lane number ≡ Some k → Contains (numbers_of lane) number
place_has lane number k found =
    let (passes, low, high) = found_passes (is_number lane number) 0 (length lane - 0) k found in
    let within : k < length lane = omega arith in (
      k,
      omega (arith, within, length-map lane (λ j. j.number)),
      get_or-map (λ j. j.number) lane k (record { number = 0; nodes = [] }) number within ∙ eqb-true (get_or lane k (record { number = 0; nodes = [] })).number number passes,
    )

module _ (b : BoardParts) (number : ℕ) (lanes : length b.lanes ≡ b.opening.workers) where
  -- no place, so it stands nowhere
  nowhere : claim_place b number ≡ None → (lane : ℕ) → Contains (numbers_of (lane_at b.lanes lane)) number → ⊥
  nowhere none lane held = elim (cases_lt lane b.opening.workers) [
    | inl inside ↦ by (first_from (has_number b.lanes number) 0 b.opening.workers) refl inside
    | inr past ↦ let empty : length (numbers_of (lane_at b.lanes lane)) ≡ 0 = ap (λ l. length (numbers_of l)) (get_or_past b.lanes lane [] (omega arith)) in absurd (omega (arith, held.1, empty))
  ]
    where
      here : (k : Option ℕ) → place_in (lane_at b.lanes lane) number ≡ k → has_number b.lanes number lane ≡ false → ⊥
      here None e fails = has_place (lane_at b.lanes lane) number held e
      here (Some k) e fails = true≢false (sym (ap is_some e) ∙ fails)

      inner : (at : ℕ) (k : Option ℕ) → place_in (lane_at b.lanes at) number ≡ k → is_some k ≡ true → place_at b.lanes number (Some at) ≡ None → ⊥
      inner at None e some h = false≢true some
      inner at (Some k) e some h =
          let place : ℕ → Place = λ p. record { lane = at; place = p } in
          none-some (place k) (sym (sym (ap (option_map place) e) ∙ h))

      by : (found : Option ℕ) → first_from (has_number b.lanes number) 0 b.opening.workers ≡ found → lane < b.opening.workers → ⊥
      by None e inside =
          let place : 0 + lane ≡ lane = omega arith in
          here (place_in (lane_at b.lanes lane) number) refl (ap (has_number b.lanes number) (sym place) ∙ none_found (has_number b.lanes number) 0 (b.opening.workers - 0) e lane (omega arith))
      by (Some at) e inside =
          let (passes, low, high) = found_passes (has_number b.lanes number) 0 (b.opening.workers - 0) at e in
          inner at (place_in (lane_at b.lanes at) number) refl passes (sym (ap (place_at b.lanes number) e) ∙ none)

  -- it stands nowhere, so it has no place
  no_place : ((lane : ℕ) → Contains (numbers_of (lane_at b.lanes lane)) number → ⊥) → claim_place b number ≡ None
  no_place nowhere_held =
      ap (place_at b.lanes number) (none_is (has_number b.lanes number) 0 (b.opening.workers - 0) (λ lane inside. fails (0 + lane) (place_in (lane_at b.lanes (0 + lane)) number) refl))
    where
      fails : (lane : ℕ) (k : Option ℕ) → place_in (lane_at b.lanes lane) number ≡ k → has_number b.lanes number lane ≡ false
      fails lane None e = ap is_some e
      fails lane (Some k) e = absurd (nowhere_held lane (place_has (lane_at b.lanes lane) number k e))

pub stale_tells : (b : BoardParts) (number : ℕ) → length b.lanes ≡ b.opening.workers
    → (claim_place b number ≡ None) ↔ ((lane : ℕ) → Contains (numbers_of (lane_at b.lanes lane)) number → ⊥)
stale_tells b number lanes = (nowhere b number lanes, no_place b number lanes)
