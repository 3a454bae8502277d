-- Nodes, which are lists of steps that begin callings, and what found touches and nodes cover.
use Rattle.std.specs.Prelude.{◌≡◌, ◌≢◌, ℕ, ◌+◌, ◌/◌, ◌<◌, ◌≤◌, ◌⊎◌, Bool, true, false, ◌&&◌, nat_eq, nat_abs, List, [], ◌∷◌, length, get_or, take, count_by, All, Any, Contains}
use Rattle.std.specs.Cmp.Lexicographic.{pointwise}
use Rattle.cr_model.specs.Problems.{ProblemParts}
use Rattle.cr_model.specs.Callings.{HasSteps, length_of}
use Rattle.cr_model.specs.Queries.{part_cap}
use Rattle.cr_model.specs.Touches.{Kept}

-- the first of the equal words of a calling
abbrev pub part_of : ProblemParts → List ℕ → List ℕ
part_of p calling = take (length calling / nat_abs p.query.parts) calling

-- the first list begins the second
abbrev pub is_prefix : List ℕ → List ℕ → Bool
is_prefix [] steps = true
is_prefix (x ∷ node) [] = false
is_prefix (x ∷ node) (y ∷ steps) = nat_eq x y && is_prefix node steps

-- a node is above a touch: it begins the touch's part
abbrev pub is_above : ProblemParts → List ℕ → List ℕ → Bool
is_above p node calling = is_prefix node (part_of p calling)

abbrev pub IsAbove : ProblemParts → List ℕ → List ℕ → Type 0
IsAbove p node calling = is_above p node calling ≡ true

-- a node has steps of the problem alone, and is no longer than a part may be
pub record IsValid (p : ProblemParts) (node : List ℕ) : Type 0 where
  pub steps : HasSteps p node
  pub short : length_of p node ≤ part_cap p

-- how many of the nodes are above the touch
abbrev pub nodes_above : ProblemParts → List (List ℕ) → List ℕ → ℕ
nodes_above p nodes calling = count_by (λ node. is_above p node calling) nodes

-- how often the touch was found
abbrev pub times_found : List (List ℕ) → List ℕ → ℕ
times_found found calling = count_by (pointwise nat_eq calling) found

-- a kept touch is covered where it is found, or some node is above it
pub record Covers (p : ProblemParts) (found nodes : List (List ℕ)) (calling : List ℕ) : Type 0 where
  pub kept : Kept p calling
  pub reached : Contains found calling ⊎ ((node : List ℕ) × Contains nodes node × IsAbove p node calling)

-- no node begins a node at another position, and no node is above a touch that was found
pub record Independent (p : ProblemParts) (found nodes : List (List ℕ)) : Type 0 where
  pub nodes_apart : (i j : ℕ) → i < length nodes → j < length nodes → i ≢ j → is_prefix (get_or nodes i []) (get_or nodes j []) ≡ false
  pub found_apart : (i j : ℕ) → i < length nodes → j < length found → is_above p (get_or nodes i []) (get_or found j []) ≡ false

-- a job is split into what was found and what is left of it: nothing lost, nothing twice, nothing new
pub record Splits (p : ProblemParts) (job found rest : List (List ℕ)) : Type 0 where
  pub each : (calling : List ℕ) → Kept p calling → nodes_above p job calling ≡ times_found found calling + nodes_above p rest calling
  pub found_kept : All (λ calling. Kept p calling × (1 ≤ nodes_above p job calling)) found
  pub rest_valid : All (λ node. IsValid p node × Any (λ above. is_prefix above node ≡ true) job) rest
  pub independent : Independent p found rest
