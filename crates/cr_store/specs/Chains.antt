-- The parts of inputs, and runs that are stopped one after another.
use Rattle.std.specs.Prelude.{◌≡◌, ℕ, List, [], ◌∷◌}
use Rattle.cr_model.specs.Problems.{ProblemParts}
use Rattle.cr_model.specs.Inputs.{SameCover}

-- the parts of an input are those of another: the problem's bytes, the problem, the found touches and the nodes
pub record AreSame (bytes : List ℕ) (p : ProblemParts) (found nodes : List (List ℕ)) (other : List ℕ) (q : ProblemParts) (founds rest : List (List ℕ)) : Type 0 where
  pub bytes_are : bytes ≡ other
  pub problem_is : p ≡ q
  pub found_are : found ≡ founds
  pub nodes_are : nodes ≡ rest

-- each text covers the same as the next
abbrev pub IsChain : List ℕ → List (List ℕ) → Type 0
IsChain text [] = Unit {0}
IsChain text (next ∷ texts) = SameCover text next × IsChain next texts

-- the last of some texts, or the one before them where there are none
abbrev pub last_text : List ℕ → List (List ℕ) → List ℕ
last_text text [] = text
last_text text (next ∷ texts) = last_text next texts
