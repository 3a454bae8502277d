-- Which texts are those of callings, and where another text goes wrong first.
use Rattle.std.specs.Prelude.{◌≡◌, ℕ, ◌+◌, ◌≤◌, ◌⊎◌, List, length, take, ◌++◌}
use Rattle.cr_model.specs.Problems.{ProblemParts}
use Rattle.cr_model.specs.Callings.{HasSteps}
use Rattle.cr_model.specs.Books.{calling_text}
use Rattle.cr_model.specs.Limits.{most_leads}

-- a calling of 1 to 1,024 steps of the problem
pub record IsReadable (p : ProblemParts) (calling : List ℕ) : Type 0 where
  pub steps : HasSteps p calling
  pub some : 1 ≤ length calling
  pub few : length calling ≤ most_leads

-- the text of such a calling
pub record IsCallingText (p : ProblemParts) (text calling : List ℕ) : Type 0 where
  pub readable : IsReadable p calling
  pub is : calling_text p calling ≡ text

-- some calling of 1 to 1,024 steps has a text that begins so
pub record CanBeginCalling (p : ProblemParts) (front : List ℕ) : Type 0 where
  pub calling : List ℕ
  pub more : List ℕ
  pub begins : IsCallingText p (front ++ more) calling

-- no calling of 1 to 1,024 steps has this text, and this is the place of the first byte that cannot be, or of
-- the text's end
pub record IsFirstWrongByte (p : ProblemParts) (text : List ℕ) (place : ℕ) : Type 0 where
  pub none : (calling : List ℕ) → IsCallingText p text calling → ⊥
  pub within : place ≤ length text
  pub before : CanBeginCalling p (take place text)
  pub here : (place ≡ length text) ⊎ (CanBeginCalling p (take (place + 1) text) → ⊥)
