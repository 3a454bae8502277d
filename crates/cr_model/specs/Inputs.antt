-- Inputs of a search, which are problem files and checkpoints, and which of them cover the same.
use Rattle.std.specs.Prelude.{◌≡◌, ℕ, ◌⊎◌, ◌↔◌, List, [], ◌∷◌}
use Rattle.cr_model.specs.Problems.{ProblemParts}
use Rattle.cr_model.specs.Nodes.{Covers}
use Rattle.cr_model.specs.ProblemFiles.{ProblemFile}
use Rattle.cr_model.specs.Checkpoints.{CheckFile, IsCheckpoint, nodes_of_jobs}

-- a checkpoint: these are its problem's bytes, its problem, what it found, and the nodes of its jobs
pub record IsResumed (text bytes : List ℕ) (p : ProblemParts) (found nodes : List (List ℕ)) : Type 0 where
  pub begins : IsCheckpoint text
  pub jobs : List (List (List ℕ))
  pub file : CheckFile text bytes p found jobs
  pub nodes_are : nodes ≡ nodes_of_jobs jobs

-- a problem's file: nothing is found, and the root is the only node
pub record IsFresh (text bytes : List ℕ) (p : ProblemParts) (found nodes : List (List ℕ)) : Type 0 where
  pub begins : IsCheckpoint text → ⊥
  pub bytes_are : bytes ≡ text
  pub file : ProblemFile text p
  pub found_are : found ≡ []
  pub nodes_are : nodes ≡ [] ∷ []

-- an input of a search, with its problem's bytes, its problem, what was found and the nodes that are left
abbrev pub Input : List ℕ → List ℕ → ProblemParts → List (List ℕ) → List (List ℕ) → Type 0
Input text bytes p found nodes = IsResumed text bytes p found nodes ⊎ IsFresh text bytes p found nodes

-- both are inputs with the same problem's bytes, and cover the same callings
pub record SameCover (text other : List ℕ) : Type 0 where
  pub bytes : List ℕ
  pub p : ProblemParts
  pub found : List (List ℕ)
  pub nodes : List (List ℕ)
  pub other_found : List (List ℕ)
  pub other_nodes : List (List ℕ)
  pub input : Input text bytes p found nodes
  pub other_input : Input other bytes p other_found other_nodes
  pub covers : (calling : List ℕ) → Covers p found nodes calling ↔ Covers p other_found other_nodes calling
