use Rattle.std.proofs.Common.{◌≡◌, ℕ, zero, suc, ◌<◌, [], ◌∷◌, get_or, List, refl, ap, arith}
use Rattle.std.proofs.lemmas.Bool.{true≢false}
use Rattle.cr_model.specs.Callings.{lead_length, changes_of}
use Rattle.cr_model.specs.Levels.{head_from}
use Rattle.cr_model.specs.Problems.{ProblemParts}
use Rattle.cr_model.specs.Examples.{pair, asks}
use Rattle.cr_ahead.specs.Moves.{next_place, step_length, step_gain, is_end}
use Rattle.cr_ahead.specs.Home.{power, is_part_end}
use Rattle.cr_ahead.specs.LeadMoves.{AreMovesOf, marked_gain}
use Rattle.cr_ahead.specs.Examples.{minimus_heads, minimus_moves}
use Rattle.cr_ahead.proofs.laws.home_examples.moves_of_plain_bob_minimus.Goals as goal

abbrev one_part : ProblemParts
one_part = pair (asks 1 24 1)

-- a fact of each number below three
below_three : (P : ℕ → Type 0) → P 0 → P 1 → P 2 → (n : ℕ) → n < 3 → P n
below_three P none one two zero inside = none
below_three P none one two (suc zero) inside = one
below_three P none one two (suc (suc zero)) inside = two
below_three P none one two (suc (suc (suc n))) inside = absurd (omega arith)

ends : (place : ℕ) → place < 3 → is_end minimus_moves place ≡ is_part_end one_part (get_or minimus_heads place [])
unfolding power
ends = below_three (λ place. is_end minimus_moves place ≡ is_part_end one_part (get_or minimus_heads place [])) refl refl refl

there : (place : ℕ) → place < 3 → (step : ℕ) → step < 3 → next_place minimus_moves place step < 3
there =
    let none : 0 < 3 = omega arith in let one : 1 < 3 = omega arith in let two : 2 < 3 = omega arith in
    below_three (λ place. (step : ℕ) → step < 3 → next_place minimus_moves place step < 3)
    (below_three (λ step. next_place minimus_moves 0 step < 3) one none one)
    (below_three (λ step. next_place minimus_moves 1 step < 3) two one two)
    (below_three (λ step. next_place minimus_moves 2 step < 3) none two none)

abbrev Leads : ℕ → ℕ → Type 0
Leads place step = get_or minimus_heads (next_place minimus_moves place step) [] ≡ head_from (get_or minimus_heads place []) (changes_of one_part step)

next : (place : ℕ) → place < 3 → (step : ℕ) → step < 3 → Leads place step
next =
    below_three (λ place. (step : ℕ) → step < 3 → Leads place step)
    (below_three (Leads 0) refl refl refl) (below_three (Leads 1) refl refl refl) (below_three (Leads 2) refl refl refl)

abbrev Gains : ℕ → ℕ → Type 0
Gains place step = step_gain minimus_moves place step ≡ marked_gain one_part 112 step

gains : (place : ℕ) → place < 3 → (step : ℕ) → step < 3 → Gains place step
gains =
    below_three (λ place. (step : ℕ) → step < 3 → Gains place step)
    (below_three (Gains 0) refl refl refl) (below_three (Gains 1) refl refl refl) (below_three (Gains 2) refl refl refl)

moves : AreMovesOf one_part minimus_heads minimus_moves
moves = record {
  places = refl;
  steps = refl;
  lengths = below_three (λ step. step_length minimus_moves step ≡ lead_length one_part step) refl refl refl;
  ends = ends;
  there = λ place step inside known. there place inside step known;
  next = λ place step inside known. next place inside step known;
}

-- the wrong ones
not_three : AreMovesOf (pair (asks 1 24 3)) minimus_heads minimus_moves → ⊥
unfolding power
not_three moves' = true≢false (moves'.ends 0 (omega arith))

not_exchanged : AreMovesOf one_part minimus_heads (record minimus_moves { next = 0 ∷ 1 ∷ 1 ∷ 2 ∷ 1 ∷ 2 ∷ 0 ∷ 2 ∷ 0 ∷ [] }) → ⊥
not_exchanged moves' = differ 2 3 (ap (λ (row : List ℕ). get_or row 1 0) (moves'.next 0 0 (omega arith) (omega arith))) (omega arith)
  where
    differ : (a b : ℕ) → a ≡ b → a < b → ⊥
    differ a b same less = absurd (omega arith)

pub returns : goal.returns
returns c = record {
  moves = moves;
  gains = λ place step inside known. gains place inside step known;
  place = record { there = omega arith; head = refl };
  three_parts = not_three;
  exchanged = not_exchanged;
}
