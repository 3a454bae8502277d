-- The answer by recursion, for examples: it computes.
use Rattle.std.proofs.Common.{◌≡◌, ℕ, zero, suc, ◌+◌, ◌<◌, ◌≤◌, nat_le, Bool, true, false, cond, ◌&&◌, [], ◌∷◌, Option, Some, None, refl, arith, subst}
use Rattle.std.proofs.lemmas.Bool.{leb-false}
use Rattle.std.specs.List.{All}
use Rattle.std.proofs.lemmas.List.Elements.{All-get_or, All-nil, All-cons}
use Rattle.cr_ahead.specs.declared.gains.Gains.{Gains}
use Rattle.cr_ahead.specs.Moves.{MovesParts, steps_of, next_place, step_length, step_gain, is_end}
use Rattle.cr_ahead.specs.Ways.{IsAnswer}
use Rattle.cr_ahead.specs.Examples.{ring}
use Rattle.cr_ahead.specs.Cells.{joined, raised}
use Rattle.cr_ahead.specs.Rows.{BeginsWith, BeginsBelow, IsAnswerOf}
use Rattle.cr_ahead.proofs.Steps.{behind_step, none_behind, tested_begun, one_more_begun, all_begun}

-- some gains joined with those by the first steps
abbrev pub with_steps : (ℕ → Option Gains) → Option Gains → ℕ → Option Gains
with_steps by start zero = start
with_steps by start (suc count) = joined (with_steps by start count) (by count)

-- the answer where fewer than so many steps have room
abbrev pub answer_of : ℕ → MovesParts → ℕ → ℕ → ℕ → ℕ → Option Gains
answer_of zero m least greatest place long = None
answer_of (suc depth) m least greatest place long = with_steps
    (λ step. cond (nat_le (long + step_length m step) greatest)
    (raised (step_gain m place step) (answer_of depth m least greatest (next_place m place step) (long + step_length m step))) None)
    (cond (is_end m place && (nat_le least long && nat_le long greatest)) (Some (record { least = 0; greatest = 0 })) None)
    (steps_of m)

with_steps_right : (m : MovesParts) (least greatest place long : ℕ) (by : ℕ → Option Gains) (start : Option Gains)
    → IsAnswerOf m least greatest place long (BeginsBelow 0) start
    → ((step : ℕ) → step < steps_of m → IsAnswerOf m least greatest place long (BeginsWith step) (by step))
    → (count : ℕ) → count ≤ steps_of m → IsAnswerOf m least greatest place long (BeginsBelow count) (with_steps by start count)
with_steps_right m least greatest place long by start begun each zero few = begun
with_steps_right m least greatest place long by start begun each (suc count) few =
    let up : count + 1 ≡ suc count = omega arith in
    subst (λ (n : ℕ). IsAnswerOf m least greatest place long (BeginsBelow n) (joined (with_steps by start count) (by count))) up
    (one_more_begun m least greatest place long count (with_steps by start count) (by count)
    (with_steps_right m least greatest place long by start begun each count (omega arith)) (each count (omega arith)))

step_right : (m : MovesParts) (least greatest place long step : ℕ) (later : Option Gains) → step < steps_of m
    → IsAnswer m least greatest (next_place m place step) (long + step_length m step) later
    → IsAnswerOf m least greatest place long (BeginsWith step) (cond (nat_le (long + step_length m step) greatest) (raised (step_gain m place step) later) None)
step_right m least greatest place long step later within told = by (nat_le (long + step_length m step) greatest) refl
  where
    by : (room : Bool) → nat_le (long + step_length m step) greatest ≡ room
        → IsAnswerOf m least greatest place long (BeginsWith step) (cond room (raised (step_gain m place step) later) None)
    by true e = behind_step m least greatest place long step (step_gain m place step) later within refl told
    by false e = none_behind m least greatest place long step (leb-false (long + step_length m step) greatest e)

pub answered_by : (depth : ℕ) (m : MovesParts) (least greatest place long : ℕ) → All (λ n. 0 < n) m.lengths → greatest < long + depth
    → IsAnswer m least greatest place long (answer_of depth m least greatest place long)
answered_by zero m least greatest place long some beyond = λ steps way. absurd (omega (arith, way.at_most))
answered_by (suc depth) m least greatest place long some beyond =
    all_begun m least greatest place long (steps_of m) (answer_of (suc depth) m least greatest place long) (omega arith)
    (with_steps_right m least greatest place long
    (λ step. cond (nat_le (long + step_length m step) greatest)
    (raised (step_gain m place step) (answer_of depth m least greatest (next_place m place step) (long + step_length m step))) None)
    (cond (is_end m place && (nat_le least long && nat_le long greatest)) (Some (record { least = 0; greatest = 0 })) None)
    (tested_begun m least greatest place long)
    (λ step within.
    let more : 0 < step_length m step = All-get_or (λ n. 0 < n) m.lengths step 0 within some in
    step_right m least greatest place long step (answer_of depth m least greatest (next_place m place step) (long + step_length m step)) within
    (answered_by depth m least greatest (next_place m place step) (long + step_length m step) some (omega arith)))
    (steps_of m) (omega arith))

-- of the ring
pub ring_long : All (λ n. 0 < n) ring.lengths
ring_long = All-cons (λ n. 0 < n) 2 (3 ∷ []) (omega arith) (All-cons (λ n. 0 < n) 3 [] (omega arith) (All-nil (λ n. 0 < n)))

pub ring_answers : (depth least greatest place long : ℕ) → greatest < long + depth → IsAnswer ring least greatest place long (answer_of depth ring least greatest place long)
ring_answers depth least greatest place long beyond = answered_by depth ring least greatest place long ring_long beyond
