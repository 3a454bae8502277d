-- What reading a node's text tells.
use Rattle.std.specs.Prelude.{◌≡◌, ℕ, ◌<◌, cond, nat_lt, List, ◌++◌, length}
use Rattle.cr_model.specs.Problems.{ProblemParts}
use Rattle.cr_model.specs.Callings.{HasSteps}
use Rattle.cr_model.specs.Books.{lead_text, calling_text}
use Rattle.cr_model.specs.Checkpoints.{steps_text}

-- how many bytes the text of a lead has
abbrev pub width : ProblemParts → ℕ
width p = cond (nat_lt 1 (length p.letters)) 2 1

-- the text of a calling of the problem's steps, which may be empty
pub record IsCallingText (p : ProblemParts) (text : List ℕ) : Type 0 where
  pub steps : List ℕ
  pub known : HasSteps p steps
  pub is : text ≡ calling_text p steps

-- the text of a node
pub record IsNodeText (p : ProblemParts) (text : List ℕ) : Type 0 where
  pub node : List ℕ
  pub known : HasSteps p node
  pub is : text ≡ steps_text p node

-- the text begins with that of a lead, and goes on so
pub record BeginsWithLead (p : ProblemParts) (text rest : List ℕ) : Type 0 where
  pub step : ℕ
  pub known : step < length p.leads
  pub is : text ≡ lead_text p step ++ rest
