-- A lead on its way onto a stack of rows.
use Rattle.std.specs.Prelude.{◌≡◌, ℕ, ◌+◌, ◌≤◌, List, ◌++◌, length, take}
use Rattle.cr_row.specs.Rows.{Places}
use Rattle.cr_model.specs.Limits.{most_lead_changes}
use Rattle.cr_model.specs.Problems.{ProblemParts}
use Rattle.cr_model.specs.Callings.{rows_from, last_of}
use Rattle.cr_model.specs.Queries.{part_cap}
use Rattle.cr_rowset.specs.Stacks.{StackParts}

-- the most rows of a node that a walk goes to: one lead more than a part may have
abbrev pub room_of : ProblemParts → ℕ
room_of p = part_cap p + most_lead_changes

-- what stands on the stack now and what is left of the lead are what stood there before and the whole lead
pub record IsRinging (old now : StackParts) (from row : List ℕ) (changes rest : List Places) : Type 0 where
  pub all : now.rows ++ rows_from row rest ≡ old.rows ++ rows_from from changes
  pub last : last_of row (rows_from row rest) ≡ last_of from (rows_from from changes)
  pub room : now.room ≡ old.room
  pub long : length old.rows ≤ length now.rows
  pub kept : take (length old.rows) now.rows ≡ old.rows
