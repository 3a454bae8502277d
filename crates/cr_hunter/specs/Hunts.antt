-- Turns on the plain hunt on three bells, and openings of its search.
use Rattle.std.specs.Prelude.{◌≡◌, ℕ, ◌<◌, ◌⊎◌, List, [], ◌∷◌, ◌++◌, Option}
use Rattle.cr_board.specs.Jobs.{OpeningParts, opening_from}
use Rattle.cr_board.specs.Examples.{hunts}

-- the root, or a node of one of the two steps
abbrev pub IsHuntNode : List ℕ → Type 0
IsHuntNode node = (node ≡ []) ⊎ ((step : ℕ) × (step < 2) × (node ≡ step ∷ []))

-- a step is a touch
abbrev pub touches_at : List ℕ → List (List ℕ)
touches_at [] = []
touches_at (step ∷ steps) = (step ∷ steps) ∷ []

-- below the root stand both steps, the greater first
abbrev pub nodes_below : List ℕ → List (List ℕ)
nodes_below [] = (1 ∷ []) ∷ (0 ∷ []) ∷ []
nodes_below (step ∷ steps) = []

-- a turn on the last of the nodes that are left
pub record IsTurn (found rest now left : List (List ℕ)) : Type 0 where
  pub before : List (List ℕ)
  pub node : List ℕ
  pub known : IsHuntNode node
  pub was : rest ≡ before ++ node ∷ []
  pub found_is : now ≡ found ++ touches_at node
  pub left_is : left ≡ before ++ nodes_below node

-- an opening of a search of the plain hunt from some jobs
abbrev pub hunt_from : List (List (List ℕ)) → Option ℕ → ℕ → OpeningParts
hunt_from jobs budget workers = opening_from hunts [] jobs budget workers

-- the jobs of an opening: step 1 alone, or step 1 and step 0
abbrev pub second_step : List (List (List ℕ))
second_step = ((1 ∷ []) ∷ []) ∷ []

abbrev pub both_steps : List (List (List ℕ))
both_steps = ((1 ∷ []) ∷ []) ∷ ((0 ∷ []) ∷ []) ∷ []
