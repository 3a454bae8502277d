-- Moves in units go the same ways as in changes.
use Rattle.std.proofs.Common.{◌≡◌, ℕ, ◌+◌, ◌*◌, ◌/◌, ◌<◌, ◌≤◌, List, [], ◌∷◌, length, get_or, map, All, Option, inl, inr, refl, sym, ap, ◌∙◌, subst, arith, length-append}
use Rattle.std.proofs.lemmas.Bool.{cases_lt}
use Rattle.std.proofs.Math.Nat.{mul_comm}
use Rattle.std.proofs.lemmas.Nat.{div-add-mod', div-mul-add}
use Rattle.std.proofs.lemmas.List.{length-map, get_or-map, get_or_past}
use Rattle.cr_model.specs.Problems.{ProblemParts}
use Rattle.cr_model.specs.Callings.{changes_of, changes_of_all, lead_length, length_of}
use Rattle.cr_ahead.specs.declared.gains.Gains.{Gains}
use Rattle.cr_ahead.specs.Moves.{MovesParts, steps_of, next_place, step_length, step_gain, is_end}
use Rattle.cr_ahead.specs.Ways.{place_after, gain_of, IsWay, IsAnswer}
use Rattle.cr_ahead.specs.Ways as ways
use Rattle.cr_ahead.specs.Units.{IsUnit, units_for, units_in, in_changes}
use Rattle.cr_ahead.proofs.LeadMoves.{part_reaches, part_fits}
use Rattle.cr_ahead.proofs.Sets.{tells_same, tells_alike}

-- moves
module _ (unit : ℕ) (m : MovesParts) where
  pub same_steps : steps_of (in_changes unit m) ≡ steps_of m
  same_steps = length-map m.lengths (λ long. unit * long)

  pub same_next : (place step : ℕ) → next_place (in_changes unit m) place step ≡ next_place m place step
  same_next place step = ap (λ (n : ℕ). get_or m.next (place * n + step) 0) same_steps

  same_gain : (place step : ℕ) → step_gain (in_changes unit m) place step ≡ step_gain m place step
  same_gain place step = ap (λ (n : ℕ). get_or m.gains (place * n + step) 0) same_steps

  pub times_length : (step : ℕ) → step_length (in_changes unit m) step ≡ unit * step_length m step
  times_length step = elim (cases_lt step (length m.lengths)) [
    | inl within ↦ get_or-map (λ long. unit * long) m.lengths step 0 0 within
    | inr past ↦
        let none : step_length m step ≡ 0 = get_or_past m.lengths step 0 past in
        let all : length (map (λ long. unit * long) m.lengths) ≡ length m.lengths = same_steps in
        let both : step_length (in_changes unit m) step ≡ 0 = get_or_past (map (λ long. unit * long) m.lengths) step 0 (omega (arith, past, all)) in
        let nothing : unit * step_length m step ≡ 0 = ap (λ (n : ℕ). unit * n) none ∙ omega arith in
        both ∙ sym nothing
  ]

  pub same_place : (place : ℕ) (way : List ℕ) → place_after (in_changes unit m) place way ≡ place_after m place way
  same_place place [] = refl
  same_place place (step ∷ way) = ap (λ (n : ℕ). place_after (in_changes unit m) n way) (same_next place step) ∙ same_place (next_place m place step) way

  pub same_gains : (place : ℕ) (way : List ℕ) → gain_of (in_changes unit m) place way ≡ gain_of m place way
  same_gains place [] = refl
  same_gains place (step ∷ way) =
      let rest : gain_of (in_changes unit m) (next_place (in_changes unit m) place step) way ≡ gain_of m (next_place m place step) way =
      ap (λ (n : ℕ). gain_of (in_changes unit m) n way) (same_next place step) ∙ same_gains (next_place m place step) way in
      omega (arith, same_gain place step, rest)

  pub times_all : (way : List ℕ) → ways.length_of (in_changes unit m) way ≡ unit * ways.length_of m way
  times_all [] = omega arith
  times_all (step ∷ way) = omega (arith, times_length step, times_all way)

  module _ (some : 1 ≤ unit) (least greatest place long : ℕ) where
    both_lengths : (way : List ℕ) → unit * long + ways.length_of (in_changes unit m) way ≡ unit * (long + ways.length_of m way)
    both_lengths way = omega (arith, times_all way)

    there : (way : List ℕ) → IsWay m (units_for unit least) (units_in unit greatest) place long way → IsWay (in_changes unit m) least greatest place (unit * long) way
    there way is = record {
      are_steps = subst (λ (n : ℕ). All (λ step. step < n) way) (sym same_steps) is.are_steps;
      at_end = ap (is_end m) (same_place place way) ∙ is.at_end;
      at_least = subst (λ (n : ℕ). least ≤ n) (sym (both_lengths way)) ((part_reaches least unit (long + ways.length_of m way) some).0 is.at_least);
      at_most = subst (λ (n : ℕ). n ≤ greatest) (sym (both_lengths way)) ((part_fits greatest unit (long + ways.length_of m way) some).0 is.at_most);
    }

    back : (way : List ℕ) → IsWay (in_changes unit m) least greatest place (unit * long) way → IsWay m (units_for unit least) (units_in unit greatest) place long way
    back way is = record {
      are_steps = subst (λ (n : ℕ). All (λ step. step < n) way) same_steps is.are_steps;
      at_end = sym (ap (is_end m) (same_place place way)) ∙ is.at_end;
      at_least = (part_reaches least unit (long + ways.length_of m way) some).1 (subst (λ (n : ℕ). least ≤ n) (both_lengths way) is.at_least);
      at_most = (part_fits greatest unit (long + ways.length_of m way) some).1 (subst (λ (n : ℕ). n ≤ greatest) (both_lengths way) is.at_most);
    }

    -- so what is answered in units is answered in changes
    pub answer_in_changes : (gains : Option Gains) → IsAnswer m (units_for unit least) (units_in unit greatest) place long gains
        → IsAnswer (in_changes unit m) least greatest place (unit * long) gains
    answer_in_changes gains is =
        tells_alike (IsWay (in_changes unit m) least greatest place (unit * long)) (gain_of m place) (gain_of (in_changes unit m) place)
        (λ way. sym (same_gains place way)) gains
        (tells_same (IsWay m (units_for unit least) (units_in unit greatest) place long) (IsWay (in_changes unit m) least greatest place (unit * long)) (gain_of m place) there back gains is)

-- a node has some units, and nothing is left over
node_in_units : (p : ProblemParts) (unit : ℕ) → IsUnit p unit → (node : List ℕ) → (number : ℕ) × (length_of p node ≡ unit * number)
node_in_units p unit is [] = (0, omega arith)
node_in_units p unit is (step ∷ node) =
    let rest = node_in_units p unit is node in
    let lead : lead_length p step ≡ unit * (lead_length p step / unit) =
    omega (arith, div-add-mod' (lead_length p step) unit, is.each step, mul_comm unit (lead_length p step / unit)) in (
      lead_length p step / unit + rest.0,
      omega (arith, lead, rest.1, length-append (changes_of p step) (changes_of_all p node)),
    )

nothing : (n : ℕ) → n ≡ n + 0
nothing n = omega arith

pub node_units : (p : ProblemParts) (unit : ℕ) → IsUnit p unit → (node : List ℕ) → length_of p node ≡ unit * (length_of p node / unit)
node_units p unit is node =
    let whole = node_in_units p unit is node in
    let back : length_of p node / unit ≡ whole.0 =
    ap (λ (n : ℕ). n / unit) (whole.1 ∙ mul_comm unit whole.0 ∙ nothing (whole.0 * unit)) ∙ div-mul-add whole.0 unit 0 is.some in
    whole.1 ∙ ap (λ (n : ℕ). unit * n) (sym back)
