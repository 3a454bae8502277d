-- A meter's node, move by move.
use Rattle.std.proofs.Common.{◌≡◌, ℕ, ◌+◌, ◌-◌, ◌≤◌, List, [], ◌∷◌, ◌++◌, length, map, take, take_at, arith, length-append, length-take, Option, Some, refl, sym, ap, ◌∙◌, subst, inl, inr, append-nil}
use Rattle.std.proofs.lemmas.Bool.{cases_eq}
use Rattle.std.proofs.lemmas.List.{append_assoc, take_all, take-take, take-append-le}
use Rattle.cr_model.specs.Problems.{ProblemParts}
use Rattle.cr_model.specs.Sizes.{child}
use Rattle.cr_query.specs.Meters.{parent, meter_from, node_after, node_after_all, moved_by_all}

-- the moves are the node's
by_node : (p : ProblemParts) (node : List ℕ) (moves : List (Option ℕ)) → moved_by_all (meter_from p node) moves ≡ meter_from p (node_after_all node moves)
by_node p node [] = refl
by_node p node (move ∷ moves) = by_node p (node_after node move) moves

-- steps that are added stand in their order
added : (node steps : List ℕ) → node_after_all node (map (λ step. Some step) steps) ≡ node ++ steps
added node [] = sym (append-nil node)
added node (step ∷ steps) = added (node ++ step ∷ []) steps ∙ append_assoc node (step ∷ []) steps

-- a meter that moved is as one that was led to the same node alone
pub told_afresh : (p : ProblemParts) (moves : List (Option ℕ))
    → moved_by_all (meter_from p []) moves ≡ moved_by_all (meter_from p []) (map (λ step. Some step) (node_after_all [] moves))
told_afresh p moves =
    by_node p [] moves
    ∙ ap (meter_from p) (sym (added [] (node_after_all [] moves)))
    ∙ sym (by_node p [] (map (λ step. Some step) (node_after_all [] moves)))

-- the parent of a child is the node
pub parent_of_child : (node : List ℕ) (step : ℕ) → parent (child node step) ≡ node
parent_of_child node step =
    let last : length (node ++ step ∷ []) - 1 ≡ length node = omega (arith, length-append node (step ∷ [])) in
    ap (λ n. take n (node ++ step ∷ [])) last ∙ take_at node (step ∷ []) (length node) refl

-- what holds of each front of a node, and of a child, holds of each front of the child, and of the node's parent
pub fronts_more : (P : List ℕ → Type 0) (node : List ℕ) (step : ℕ) → ((k : ℕ) → k ≤ length node → P (take k node)) → P (child node step)
    → (k : ℕ) → k ≤ length (child node step) → P (take k (child node step))
fronts_more P node step before here k low =
    let long : length (node ++ step ∷ []) ≡ length node + 1 = omega (arith, length-append node (step ∷ [])) in
    elim (cases_eq k (length node + 1)) [
      | inl last ↦ subst P (sym (take_all k (node ++ step ∷ []) (omega (arith, last, long)))) here
      | inr other ↦ let below : k ≤ length node = omega (arith, low, other, long) in subst P (sym (take-append-le k node (step ∷ []) below)) (before k below)
    ]

pub fronts_fewer : (P : List ℕ → Type 0) (node : List ℕ) → ((k : ℕ) → k ≤ length node → P (take k node)) → (k : ℕ) → k ≤ length (parent node) → P (take k (parent node))
fronts_fewer P node all k low =
    let short : k ≤ length node - 1 = omega (arith, low, length-take (length node - 1) node) in
    subst P (sym (take-take k (length node - 1) node short)) (all k (omega (arith, short)))
