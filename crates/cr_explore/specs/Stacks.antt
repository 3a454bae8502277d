-- The nodes that a search has left, told by where it stands: the nodes of the job that are not taken yet, and a path below the last one taken, of which each node's children before the path's are done with.
use Rattle.std.specs.Prelude.{◌≡◌, ℕ, ◌+◌, ◌-◌, ◌≤◌, Bool, List, [], ◌∷◌, ◌++◌, length, take, drop, map, reverse, filter, find, Option, is_none}
use Rattle.std.specs.List.{range_with_len}
use Rattle.cr_model.specs.Problems.{ProblemParts}
use Rattle.cr_model.specs.Nodes.{IsValid}
use Rattle.cr_model.specs.Sound.{IsSound}
use Rattle.cr_model.specs.Dead.{dead}
use Rattle.cr_model.specs.Sizes.{child}

-- where a search stands, beside its path: how many nodes of the job are not taken yet, how many steps the last one taken has, which is where the path begins, and the step from which on the children of the path's node are not tried yet
pub record Place : Type 0 where
  pub left : ℕ
  pub base : ℕ
  pub next : ℕ

abbrev pub place_at : ℕ → ℕ → ℕ → Place
place_at left base next = record { left = left; base = base; next = next }

-- a child that is not dead
abbrev pub is_live : ProblemParts → ℕ → List ℕ → Bool
is_live p most node = is_none (dead p most node)

-- the least step from one on whose child is not dead
unfoldable pub first_live : ProblemParts → ℕ → List ℕ → ℕ → Option ℕ
first_live p most node step = find (λ other. is_live p most (child node other)) (range_with_len step (length p.leads - step))

-- the children with that step or a greater one that are not dead
unfoldable pub live_from : ProblemParts → ℕ → List ℕ → ℕ → List (List ℕ)
live_from p most node step = filter (is_live p most) (map (child node) (range_with_len step (length p.leads - step)))

-- along a path of steps from a node on, the live children with a greater step than the path takes, and the greatest step first
unfoldable pub untried : ProblemParts → ℕ → List ℕ → List ℕ → List (List ℕ)
untried p most node [] = []
untried p most node (step ∷ path) = reverse (live_from p most node (step + 1)) ++ untried p most (child node step) path

-- the nodes left below the path's node: those not taken yet of the job, and those untried from the job's node to the path's
abbrev pub left_below : ProblemParts → ℕ → List (List ℕ) → Place → List ℕ → List (List ℕ)
left_below p most job place node = take place.left job ++ untried p most (take place.base node) (drop place.base node)

-- all that are left: these, and the live children of the path's node from the next step on
abbrev pub stack_of : ProblemParts → ℕ → List (List ℕ) → Place → List ℕ → List (List ℕ)
stack_of p most job place node = left_below p most job place node ++ reverse (live_from p most node place.next)

-- the path's node is valid, and it is the job's node or below it
pub record IsPlace (p : ProblemParts) (place : Place) (node : List ℕ) : Type 0 where
  pub sound : IsSound p
  pub valid : IsValid p node
  pub below : place.base ≤ length node
  pub next : place.next ≤ length p.leads

-- the last node that is left is taken off, and the path goes there
pub record IsTaken (p : ProblemParts) (most : ℕ) (job : List (List ℕ)) (before : Place) (from : List ℕ) (after : Place) (to : List ℕ) : Type 0 where
  pub next : after.next ≡ 0
  pub last : stack_of p most job before from ≡ left_below p most job after to ++ to ∷ []

-- nothing is left but what is not taken yet of the job
pub record IsPathEnded (p : ProblemParts) (most : ℕ) (job : List (List ℕ)) (before : Place) (from : List ℕ) (after : Place) (to : List ℕ) : Type 0 where
  pub first : stack_of p most job before from ≡ take before.left job
  pub now : stack_of p most job after to ≡ take after.left job
