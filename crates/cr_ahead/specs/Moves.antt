-- Moves from place to place: where each step leads, how long it is, and what it gains.
use Rattle.std.specs.Prelude.{◌≡◌, ℕ, ◌+◌, ◌*◌, ◌<◌, ◌≤◌, Bool, false, List, length, get_or, All}

-- next places and gains by place and step, place after place; lengths by step; whether a part ends, by place
pub record MovesParts : Type 0 where
  pub next : List ℕ
  pub lengths : List ℕ
  pub gains : List ℕ
  pub ends : List Bool

-- how many places and how many steps there are
abbrev pub places_of : MovesParts → ℕ
places_of m = length m.ends

abbrev pub steps_of : MovesParts → ℕ
steps_of m = length m.lengths

-- the lists hang together: each place and step has a place that it leads to and a gain, each such place is there, and no step is of length 0. A place's number has 32 bits
pub record IsSound (m : MovesParts) : Type 0 where
  pub few : places_of m ≤ 4294967296
  pub led : length m.next ≡ places_of m * steps_of m
  pub gained : length m.gains ≡ places_of m * steps_of m
  pub there : All (λ place. place < places_of m) m.next
  pub long : All (λ long. 0 < long) m.lengths

-- the place that a step leads to from a place
abbrev pub next_place : MovesParts → ℕ → ℕ → ℕ
next_place m place step = get_or m.next (place * steps_of m + step) 0

-- how long a step is
abbrev pub step_length : MovesParts → ℕ → ℕ
step_length m step = get_or m.lengths step 0

-- what a step gains from a place
abbrev pub step_gain : MovesParts → ℕ → ℕ → ℕ
step_gain m place step = get_or m.gains (place * steps_of m + step) 0

-- whether a part ends at a place
abbrev pub is_end : MovesParts → ℕ → Bool
is_end m place = get_or m.ends place false
