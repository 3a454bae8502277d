-- The problem that is made of a number, and its summary.
use Rattle.std.specs.Prelude.{◌≡◌, ℕ, ◌+◌, ◌*◌, ◌%◌, List, [], ◌∷◌}
use Rattle.cr_model.specs.Problems.{ProblemParts}
use Rattle.cr_model.specs.Books.{IsBook}
use Rattle.cr_model.specs.Summaries.{summary_text}
use Rattle.cr_model.specs.Examples.{asks, minor}

-- the greatest length that is asked for
abbrev pub made_length : ℕ → ℕ
made_length number = 12 * (6 + number % 7)

-- Plain Bob Minor, with the bob 14 and the single 1234, from 1 to so many changes
abbrev pub minor_to : ℕ → ProblemParts
minor_to most = record minor { query = asks 1 most 1 }

abbrev pub made_problem : ℕ → ProblemParts
made_problem number = minor_to (made_length number)

-- the text is the summary of all kept touches of the problem that is made of the number
pub record IsSummaryOf (number : ℕ) (text : List ℕ) : Type 0 where
  pub book : List (List ℕ)
  pub is_book : IsBook (made_problem number) [] ([] ∷ []) book
  pub is : text ≡ summary_text (made_problem number) book
