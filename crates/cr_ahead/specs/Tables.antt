-- Tables of what can still come, as contracts see them.
use Rattle.std.specs.Prelude.{◌≡◌, ℕ, ◌+◌, ◌-◌, ◌*◌, ◌<◌, ◌≤◌, nat_le, cond, List, length, get_or, Option, None}
use Rattle.cr_ahead.specs.declared.gains.Gains.{Gains}
use Rattle.cr_ahead.specs.Moves.{MovesParts, places_of}
use Rattle.cr_ahead.specs.Ways.{IsAnswer}
use Rattle.cr_ahead.specs.Cells.{told_by}

-- a row of cells for each length, from the greatest down, with a cell for each place
pub record AheadParts : Type 0 where
  pub places : ℕ
  pub greatest : ℕ
  pub cells : List Gains

-- the cell of a place and of how much longer a part may be
abbrev pub cell_at : List Gains → ℕ → ℕ → ℕ → Gains
cell_at cells places left place = get_or cells (left * places + place) (record { least = 0; greatest = 0 })

-- what a table answers for a place and a length
abbrev pub answer_at : AheadParts → ℕ → ℕ → Option Gains
answer_at t place long = cond (nat_le long t.greatest) (told_by (cell_at t.cells t.places (t.greatest - long) place)) None

-- it is the table of these moves, for parts of at least and at most so long: it answers right for each place and each length
pub record IsAhead (m : MovesParts) (least greatest : ℕ) (t : AheadParts) : Type 0 where
  pub places : t.places ≡ places_of m
  pub answers : (place long : ℕ) → place < places_of m → IsAnswer m least greatest place long (answer_at t place long)

-- what a table keeps: a cell for each place and length
pub record IsTable (places greatest : ℕ) (cells : List Gains) : Type 0 where
  pub few : places ≤ 4294967296
  pub counted : length cells ≡ (greatest + 1) * places
