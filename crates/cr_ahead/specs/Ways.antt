-- Ways to the end of a part, and what they gain.
use Rattle.std.specs.Prelude.{◌≡◌, ℕ, ◌+◌, ◌<◌, ◌≤◌, true, List, [], ◌∷◌, All, Option, Some, None}
use Rattle.cr_ahead.specs.declared.gains.Gains.{Gains}
use Rattle.cr_ahead.specs.Moves.{MovesParts, steps_of, next_place, step_length, step_gain, is_end}
use Rattle.cr_ahead.specs.Extremes.{IsLeast, IsGreatest}

-- the place that steps lead to from a place, one after another
abbrev pub place_after : MovesParts → ℕ → List ℕ → ℕ
place_after m place [] = place
place_after m place (step ∷ steps) = place_after m (next_place m place step) steps

-- how long they are together
abbrev pub length_of : MovesParts → List ℕ → ℕ
length_of m [] = 0
length_of m (step ∷ steps) = step_length m step + length_of m steps

-- what they gain together
abbrev pub gain_of : MovesParts → ℕ → List ℕ → ℕ
gain_of m place [] = 0
gain_of m place (step ∷ steps) = step_gain m place step + gain_of m (next_place m place step) steps

-- from a place at which a part is so long already the steps lead to an end, and the part is then as long as one may be
pub record IsWay (m : MovesParts) (least greatest place long : ℕ) (steps : List ℕ) : Type 0 where
  pub are_steps : All (λ step. step < steps_of m) steps
  pub at_end : is_end m (place_after m place steps) ≡ true
  pub at_least : least ≤ long + length_of m steps
  pub at_most : long + length_of m steps ≤ greatest

-- no steps are a way from there
abbrev pub HasNoWay : MovesParts → ℕ → ℕ → ℕ → ℕ → Type 0
HasNoWay m least greatest place long = (steps : List ℕ) → IsWay m least greatest place long steps → ⊥

-- a way from there gains so much, and none gains less
abbrev pub IsLeastGain : MovesParts → ℕ → ℕ → ℕ → ℕ → ℕ → Type 0
IsLeastGain m least greatest place long gain = IsLeast (IsWay m least greatest place long) (gain_of m place) gain

-- a way from there gains so much, and none gains more
abbrev pub IsGreatestGain : MovesParts → ℕ → ℕ → ℕ → ℕ → ℕ → Type 0
IsGreatestGain m least greatest place long gain = IsGreatest (IsWay m least greatest place long) (gain_of m place) gain

-- what an answer says of the members of a set: None that there are none, and Some what they gain at least and at most
abbrev pub Tells : (List ℕ → Type 0) → (List ℕ → ℕ) → Option Gains → Type 0
Tells Holds number_of None = (steps : List ℕ) → Holds steps → ⊥
Tells Holds number_of (Some gains) = IsLeast Holds number_of gains.least × IsGreatest Holds number_of gains.greatest

-- what the answer for a place and a length says: None that there is no way from there, and Some the least and the greatest gain
abbrev pub IsAnswer : MovesParts → ℕ → ℕ → ℕ → ℕ → Option Gains → Type 0
IsAnswer m least greatest place long gains = Tells (IsWay m least greatest place long) (gain_of m place) gains
