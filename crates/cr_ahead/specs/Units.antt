-- Lengths in units: so many changes at once.
use Rattle.std.specs.Prelude.{◌≡◌, ℕ, ◌+◌, ◌-◌, ◌*◌, ◌/◌, ◌%◌, ◌≤◌, map}
use Rattle.cr_model.specs.Problems.{ProblemParts}
use Rattle.cr_model.specs.Callings.{lead_length}
use Rattle.cr_model.specs.Queries.{part_cap}
use Rattle.cr_ahead.specs.Moves.{MovesParts}
use Rattle.cr_ahead.specs.LeadMoves.{part_least}

-- each lead is some units long, and nothing is left over
pub record IsUnit (p : ProblemParts) (unit : ℕ) : Type 0 where
  pub some : 1 ≤ unit
  pub each : (step : ℕ) → lead_length p step % unit ≡ 0

-- how many units hold so many changes, the last of them perhaps not full, and how many of them so many changes hold
abbrev pub units_for : ℕ → ℕ → ℕ
units_for unit changes = (changes + unit - 1) / unit

abbrev pub units_in : ℕ → ℕ → ℕ
units_in unit changes = changes / unit

-- moves whose lengths are in units, with their lengths in changes
abbrev pub in_changes : ℕ → MovesParts → MovesParts
in_changes unit m = record m { lengths = map (λ long. unit * long) m.lengths }

-- how long a part of a problem's touch is at least and at most, in units
pub record IsRange (p : ProblemParts) (unit least greatest : ℕ) : Type 0 where
  pub is_unit : IsUnit p unit
  pub from : least ≡ units_for unit (part_least p)
  pub to : greatest ≡ units_in unit (part_cap p)
