-- Parts that are gone through by numbers.
use Rattle.std.specs.Prelude.{◌≡◌, ℕ, true, false, List, length, Option, Some, None}
use Rattle.std.specs.List.{list_any}
use Rattle.cr_row.specs.Rows.{Places}
use Rattle.cr_model.specs.Problems.{ProblemParts}
use Rattle.cr_model.specs.Callings.{rows_from, last_of}
use Rattle.cr_model.specs.Levels.{is_listed}
use Rattle.cr_path.specs.Numbers.{NumberParts, IsBase}

-- a row of the stage that is a head whose records start here
pub record IsHead (p : ProblemParts) (t : NumberParts) (row : List ℕ) (base : ℕ) : Type 0 where
  pub from : IsBase t row base
  pub long : length row ≡ p.stage

-- the records of some such row start here
pub record HasHead (p : ProblemParts) (t : NumberParts) (base : ℕ) : Type 0 where
  pub row : List ℕ
  pub is : IsHead p t row base

-- changes rung from a row: where the records of the head after them start, if they bring none of these rows, and else none
pub record IsPassed (p : ProblemParts) (t : NumberParts) (rows : List (List ℕ)) (from : List ℕ) (changes : List Places) (base : ℕ) : Type 0 where
  pub is : IsHead p t (last_of from (rows_from from changes)) base
  pub new : list_any (is_listed rows) (rows_from from changes) ≡ false

abbrev pub Passes : ProblemParts → NumberParts → List (List ℕ) → List ℕ → List Places → Option ℕ → Type 0
Passes p t rows from changes None = list_any (is_listed rows) (rows_from from changes) ≡ true
Passes p t rows from changes (Some base) = IsPassed p t rows from changes base
