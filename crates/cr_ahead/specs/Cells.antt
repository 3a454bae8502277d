-- Gains as a table keeps them, and gains of several sets of ways.
use Rattle.std.specs.Prelude.{◌≡◌, ℕ, ◌+◌, nat_le, cond, min, max, Option, Some, None}
use Rattle.cr_ahead.specs.declared.gains.Gains.{Gains}

-- in a cell a least gain above the greatest says that there is no way
abbrev pub told_by : Gains → Option Gains
told_by cell = cond (nat_le cell.least cell.greatest) (Some cell) None

abbrev pub cell_of : Option Gains → Gains
cell_of None = record { least = 4294967295; greatest = 0 }
cell_of (Some gains) = gains

-- where it says so, it is always the same
abbrev pub IsCell : Gains → Type 0
IsCell cell = cell ≡ cell_of (told_by cell)

-- the gains of two sets of ways together
abbrev pub joined : Option Gains → Option Gains → Option Gains
joined None other = other
joined (Some one) None = Some one
joined (Some one) (Some other) = Some (record { least = min one.least other.least; greatest = max one.greatest other.greatest })

-- the gains where each way gains so much more
abbrev pub raised : ℕ → Option Gains → Option Gains
raised by None = None
raised by (Some gains) = Some (record { least = gains.least + by; greatest = gains.greatest + by })
