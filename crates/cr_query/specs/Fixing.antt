-- What the cells of a pattern fix on the rows of a stage: bells at places, counted from 0.
use Rattle.std.specs.Prelude.{◌≡◌, ℕ, ◌+◌, ◌-◌, ◌≤◌, ◌⊎◌, Bool, List, [], ◌∷◌, ◌++◌, length, get_or, count_by, nat_eq}
use Rattle.cr_model.specs.declared.query.Cell.{Cell}
use Rattle.cr_model.specs.declared.query.Cell.TheVariants as cell
use Rattle.cr_model.specs.Right.{is_run}
use Rattle.cr_query.specs.declared.fixing.Fixed.{Fixed}

-- what a cell fixes at a place
abbrev pub fixed_at : ℕ → Cell → List Fixed
fixed_at place (cell.Bell b) = record { place = place; bell = b } ∷ []
fixed_at place cell.Any = []
fixed_at place cell.Run = []

-- the place of the next cell, where so many cells are left: after a run these take the last places
abbrev pub place_after : ℕ → ℕ → ℕ → Cell → ℕ
place_after stage place left (cell.Bell b) = place + 1
place_after stage place left cell.Any = place + 1
place_after stage place left cell.Run = stage - left

-- what cells fix, the first of them at a place
abbrev pub fixed_from : ℕ → ℕ → List Cell → List Fixed
fixed_from stage place [] = []
fixed_from stage place (cell ∷ cells) = fixed_at place cell ++ fixed_from stage (place_after stage place (length cells) cell) cells

-- the cells take the places that are left: all of them where none is a run, and no more where one is
abbrev pub HasRoom : ℕ → ℕ → List Cell → Type 0
HasRoom stage place cells =
    ((count_by is_run cells ≡ 0) × (place + length cells ≡ stage)) ⊎ ((count_by is_run cells ≡ 1) × (place + length cells ≤ stage + 1))

-- a row has the bell at the place
abbrev pub is_at : List ℕ → Fixed → Bool
is_at row fixed = nat_eq fixed.bell (get_or row fixed.place 0)
