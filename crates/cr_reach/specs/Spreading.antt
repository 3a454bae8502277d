-- What is pushed on a row stack, level by level.
use Rattle.std.specs.Prelude.{◌≡◌, ◌≢◌, ℕ, ◌<◌, ◌≤◌, Bool, true, false, List, [], ◌++◌, length, map, flat_map, All}
use Rattle.std.specs.List.{range_with_len}
use Rattle.cr_row.specs.Rows.{product}
use Rattle.cr_model.specs.Problems.{ProblemParts}
use Rattle.cr_model.specs.Levels.{row_before, new_rows}
use Rattle.cr_leads.specs.Tables.{TableParts, lead_table}
use Rattle.cr_rowset.specs.Stacks.{StackParts}

-- rows of so many bells
abbrev pub AreOfStage : ℕ → List (List ℕ) → Type 0
AreOfStage stage rows = All (λ row. length row ≡ stage) rows

-- rows of one stage, whichever, on the stack and beside it
pub record AreAlike (rows others : List (List ℕ)) : Type 0 where
  pub stage : ℕ
  pub rows_are : AreOfStage stage rows
  pub others_are : AreOfStage stage others

-- the products with these lead back over the first steps: they are the rows before a row, step by step
abbrev pub LeadBack : TableParts → ℕ → List (List ℕ) → Type 0
LeadBack table steps inverses = (p : ProblemParts) → table ≡ lead_table p → (row : List ℕ) → length row ≡ table.stage
    → map (product row) inverses ≡ map (row_before p row) (range_with_len 0 steps)

-- the products of some rows with others, row by row
abbrev pub products : List (List ℕ) → List (List ℕ) → List (List ℕ)
products others rows = flat_map (λ row. map (product row) others) rows

-- the stack with those of some rows that are new
abbrev pub pushed : StackParts → List (List ℕ) → StackParts
pushed old more = record { rows = old.rows ++ new_rows old.rows more; room = old.room }

-- there is no room for all that are new; some may have been pushed
pub record Overflows (old : StackParts) (more : List (List ℕ)) (new : StackParts) : Type 0 where
  pub few : old.room < length (old.rows ++ new_rows old.rows more)
  pub rest : List (List ℕ)
  pub kept : new ≡ record { rows = old.rows ++ rest; room = old.room }

-- all that are new were pushed, or there is no room for them
abbrev pub Spreads : StackParts → List (List ℕ) → Bool → StackParts → Type 0
Spreads old more true new = new ≡ pushed old more
Spreads old more false new = Overflows old more new

-- all that are new were pushed, and there were some
pub record IsGrown (old : StackParts) (more : List (List ℕ)) (new : StackParts) : Type 0 where
  pub is : new ≡ pushed old more
  pub some : length old.rows < length new.rows
  pub few : length new.rows ≤ new.room

-- nothing was pushed: there were none, or no room for them
pub record IsWhole (old : StackParts) (more : List (List ℕ)) (new : StackParts) : Type 0 where
  pub same : new ≡ old
  pub full : new_rows old.rows more ≢ [] → old.room < length (old.rows ++ new_rows old.rows more)

abbrev pub Grows : StackParts → List (List ℕ) → Bool → StackParts → Type 0
Grows old more true new = IsGrown old more new
Grows old more false new = IsWhole old more new
