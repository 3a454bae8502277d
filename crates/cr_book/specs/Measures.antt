-- Lengths of callings, by a table of the lengths of leads.
use Rattle.std.specs.Prelude.{◌≡◌, ℕ, ◌<◌, List, Option, length, get_or, sum_by, All, IfSome}
use Rattle.cr_model.specs.Problems.{ProblemParts}
use Rattle.cr_model.specs.Callings.{lead_length, letter_of, mark_of}

-- the table has the length of each lead
abbrev pub HasLengths : ProblemParts → List ℕ → Type 0
HasLengths p lengths = (step : ℕ) → step < length p.leads → get_or lengths step 0 ≡ lead_length p step

-- the lengths of some steps, added up; what is not in the table counts as 0
abbrev pub added : List ℕ → List ℕ → ℕ
added lengths calling = sum_by (λ step. get_or lengths step 0) calling

-- each number is this one, if there is one
abbrev pub IsCommon : List ℕ → Option ℕ → Type 0
IsCommon lengths common = IfSome common (λ long. All (λ l. l ≡ long) lengths)

-- the tables have the letter of each lead's method, and its mark
abbrev pub HasLetters : ProblemParts → List ℕ → Type 0
HasLetters p letters = (step : ℕ) → step < length p.leads → get_or letters step 0 ≡ letter_of p step

abbrev pub HasMarks : ProblemParts → List ℕ → Type 0
HasMarks p marks = (step : ℕ) → step < length p.leads → get_or marks step 0 ≡ mark_of p step

-- the letters and the marks that are written of the leads, and their lengths
pub record AreTexts (p : ProblemParts) (letters marks lengths : List ℕ) : Type 0 where
  pub many_letters : length letters ≡ 256
  pub many_marks : length marks ≡ 256
  pub each_letter : HasLetters p letters
  pub each_mark : HasMarks p marks
  pub each_length : HasLengths p lengths
