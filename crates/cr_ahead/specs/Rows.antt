-- The rows of a table on their way.
use Rattle.std.specs.Prelude.{◌≡◌, ℕ, ◌+◌, ◌-◌, ◌*◌, ◌<◌, ◌≤◌, true, List, [], ◌∷◌, length, Option, Some, None, IfSome}
use Rattle.cr_ahead.specs.declared.gains.Gains.{Gains}
use Rattle.cr_ahead.specs.Moves.{MovesParts, places_of, is_end}
use Rattle.cr_ahead.specs.Ways.{gain_of, IsWay, Tells, IsAnswer}
use Rattle.cr_ahead.specs.Cells.{told_by}
use Rattle.cr_ahead.specs.Tables.{cell_at}

-- each unit of length gains 65,535 at most, so gains are numbers of 32 bits
abbrev pub IsFew : ℕ → Option Gains → Type 0
IsFew left gains = IfSome gains (λ g. (g.least ≤ g.greatest) × (g.greatest ≤ 65535 * left))

pub record AreFew (places : ℕ) (cells : List Gains) : Type 0 where
  pub each : (left place : ℕ) → place < places → left * places + place < length cells → IsFew left (told_by (cell_at cells places left place))

-- the cells so far answer right
pub record AreRight (m : MovesParts) (least greatest : ℕ) (cells : List Gains) : Type 0 where
  pub each : (left place : ℕ) → left ≤ greatest → place < places_of m → left * places_of m + place < length cells
      → IsAnswer m least greatest place (greatest - left) (told_by (cell_at cells (places_of m) left place))

-- the way without steps is one, and gains nothing, or it is none
abbrev pub IsStay : MovesParts → ℕ → ℕ → ℕ → ℕ → Option Gains → Type 0
IsStay m least greatest left place None = is_end m place ≡ true → least + left ≤ greatest → ⊥
IsStay m least greatest left place (Some gains) =
    (is_end m place ≡ true) × (least + left ≤ greatest) × (gains ≡ record { least = 0; greatest = 0 })

-- a way whose first step is this one
abbrev pub BeginsWith : ℕ → List ℕ → Type 0
BeginsWith step [] = ⊥
BeginsWith step (first ∷ steps) = first ≡ step

-- a way without steps, or whose first step is one of the first ones
abbrev pub BeginsBelow : ℕ → List ℕ → Type 0
BeginsBelow count [] = Unit {0}
BeginsBelow count (first ∷ steps) = first < count

-- what an answer says of some of the ways
abbrev pub IsAnswerOf : MovesParts → ℕ → ℕ → ℕ → ℕ → (List ℕ → Type 0) → Option Gains → Type 0
IsAnswerOf m least greatest place long Begins gains = Tells (λ steps. IsWay m least greatest place long steps × Begins steps) (gain_of m place) gains
