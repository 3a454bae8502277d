-- What reading one lead tells.
use Rattle.std.specs.Prelude.{◌≡◌, ℕ, ◌+◌, ◌<◌, ◌≤◌, cond, nat_lt, List, length, take, ◌++◌, Result, Ok, Err}
use Rattle.cr_model.specs.Problems.{ProblemParts}
use Rattle.cr_model.specs.Callings.{HasSteps, method_of, mark_of}
use Rattle.cr_model.specs.Books.{lead_text, calling_text}
use Rattle.cr_model.specs.Limits.{most_leads}

-- the number of bytes of a lead's text: its mark, after a letter if there are several methods
abbrev pub lead_width : ProblemParts → ℕ
lead_width p = cond (nat_lt 1 (length p.letters)) 2 1

-- the step with a method and a mark
pub record IsStepWith (p : ProblemParts) (method mark step : ℕ) : Type 0 where
  pub known : step < length p.leads
  pub method_is : method_of p step ≡ method
  pub mark_is : mark_of p step ≡ mark

-- some lead's text begins with this and goes on
pub record LeadCanBegin (p : ProblemParts) (front : List ℕ) : Type 0 where
  pub step : ℕ
  pub more : List ℕ
  pub known : step < length p.leads
  pub begins : lead_text p step ≡ front ++ more
  pub some : 0 < length more

-- the text does not begin with a lead's, and this is the place of its first byte that cannot be, or its end
pub record LeadIsWrong (p : ProblemParts) (text : List ℕ) (place : ℕ) : Type 0 where
  pub within : place ≤ length text
  pub before : LeadCanBegin p (take place text)
  pub here : place < length text → (step : ℕ) → step < length p.leads → (more : List ℕ)
      → lead_text p step ≡ take (place + 1) text ++ more → ⊥

-- the step whose lead the text begins with, or where it goes wrong first
abbrev pub LeadReads : ProblemParts → List ℕ → Result ℕ ℕ → Type 0
LeadReads p text (Ok step) = (step < length p.leads) × (lead_text p step ≡ take (lead_width p) text)
LeadReads p text (Err place) = LeadIsWrong p text place

-- the steps that were read so far, from the text up to a place
pub record IsReadTo (p : ProblemParts) (text steps : List ℕ) (place : ℕ) : Type 0 where
  pub known : HasSteps p steps
  pub few : length steps ≤ most_leads
  pub within : place ≤ length text
  pub is : calling_text p steps ≡ take place text
