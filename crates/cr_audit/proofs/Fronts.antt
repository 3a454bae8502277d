-- A node's front and its last lead.
use Rattle.std.proofs.Common.{◌≡◌, ℕ, ◌+◌, ◌-◌, ◌<◌, ◌≤◌, List, [], ◌∷◌, ◌++◌, length, take, drop, refl, sym, ap, ◌∙◌, arith, length-append, take-append-drop}
use Rattle.std.proofs.lemmas.List.{take_at, drop_at, take-take, take-append-le, length-take-le}
use Rattle.cr_model.specs.Sizes.{child}
use Rattle.cr_audit.specs.Paths.{front, last_lead}

-- both make the node
pub front_and_last : (node : List ℕ) → node ≡ front node ++ last_lead node
front_and_last node = sym (take-append-drop (length node - 1) node)

-- of a child they are the node and the step
pub front_of : (node : List ℕ) (step : ℕ) → front (child node step) ≡ node
front_of node step = take_at node (step ∷ []) (length (child node step) - 1) (omega (arith, length-append node (step ∷ [])))

pub last_of_child : (node : List ℕ) (step : ℕ) → last_lead (child node step) ≡ step ∷ []
last_of_child node step = drop_at node (step ∷ []) (length (child node step) - 1) (omega (arith, length-append node (step ∷ [])))

-- and of the first steps
pub front_of_take : (steps : List ℕ) (k : ℕ) → k < length steps → front (take (k + 1) steps) ≡ take k steps
front_of_take steps k inside =
    let long : length (take (k + 1) steps) - 1 ≡ k = omega (arith, length-take-le (k + 1) steps (omega arith)) in
    ap (λ n. take n (take (k + 1) steps)) long ∙ take-take k (k + 1) steps (omega arith)

-- a front of a node is one of its children
pub take_of_child : (node : List ℕ) (step k : ℕ) → k ≤ length node → take k (child node step) ≡ take k node
take_of_child node step k within = take-append-le k node (step ∷ []) within
