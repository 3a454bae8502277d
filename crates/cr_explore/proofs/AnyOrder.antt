-- Nodes in another order.
use Rattle.std.proofs.Common.{◌≡◌, ◌≢◌, ℕ, zero, suc, ◌<◌, Bool, true, false, ◌||◌, List, [], ◌∷◌, length, get_or, All, Any, refl, ap, arith}
use Rattle.std.specs.List.{IsDistinct}
use Rattle.std.proofs.Math.Bool.{or_comm}
use Rattle.std.specs.List.Sorted.{IsPermutation}
use Rattle.std.proofs.lemmas.Bool.{or_parts, or_from}
use Rattle.std.proofs.lemmas.List.Elements.{recursion_from_All, All-from_recursion, All-from_get_or, All-get_or}
use Rattle.std.proofs.lemmas.List.Sorted.{All-permutation, sum_by-IsPermutation}
use Rattle.std.proofs.lemmas.Map.Keys.{IsDistinct-IsPermutation, IsDistinct-cons, IsDistinct-head, IsDistinct-tail}
use Rattle.cr_model.specs.Problems.{ProblemParts}
use Rattle.cr_model.specs.Nodes.{is_prefix, is_above, IsValid, nodes_above, Independent, Splits}

-- one of two nodes begins the other
meet : List ℕ → List ℕ → Bool
meet node other = is_prefix node other || is_prefix other node

meet_flips : (node other : List ℕ) → meet node other ≡ meet other node
unfolding meet
meet_flips node other = or_comm (is_prefix node other) (is_prefix other node)

abbrev NodesApart : List (List ℕ) → Type 0
NodesApart nodes = (i j : ℕ) → i < length nodes → j < length nodes → i ≢ j → is_prefix (get_or nodes i []) (get_or nodes j []) ≡ false

no_base : IsDistinct meet []
unfolding IsDistinct
no_base = tt

-- nodes apart, as keys that differ
distinct : (nodes : List (List ℕ)) → NodesApart nodes → IsDistinct meet nodes
unfolding meet
distinct [] apart = no_base
distinct (node ∷ nodes) apart =
    IsDistinct-cons meet node nodes
    (recursion_from_All (λ other. meet node other ≡ false) nodes (All-from_get_or (λ other. meet node other ≡ false) nodes [] (λ i inside.
    or_from (is_prefix node (get_or nodes i [])) (is_prefix (get_or nodes i []) node)
    (apart 0 (suc i) (omega arith) (omega arith) (omega arith)) (apart (suc i) 0 (omega arith) (omega arith) (omega arith)))))
    (distinct nodes (λ i j inside within other. apart (suc i) (suc j) (omega arith) (omega arith) (omega arith)))

first_apart : (node : List ℕ) (nodes : List (List ℕ)) → IsDistinct meet (node ∷ nodes) → (i : ℕ) → i < length nodes
    → (is_prefix node (get_or nodes i []) ≡ false) × (is_prefix (get_or nodes i []) node ≡ false)
unfolding meet
first_apart node nodes h i inside =
    or_parts (is_prefix node (get_or nodes i [])) (is_prefix (get_or nodes i []) node)
    (All-get_or (λ other. meet node other ≡ false) nodes i [] inside (All-from_recursion (λ other. meet node other ≡ false) nodes (IsDistinct-head meet node nodes h)))

apart_again : (nodes : List (List ℕ)) → IsDistinct meet nodes → NodesApart nodes
apart_again [] h i j inside within other = absurd (omega arith)
apart_again (node ∷ nodes) h zero zero inside within other = absurd (other refl)
apart_again (node ∷ nodes) h zero (suc j) inside within other = (first_apart node nodes h j (omega arith)).0
apart_again (node ∷ nodes) h (suc i) zero inside within other = (first_apart node nodes h i (omega arith)).1
apart_again (node ∷ nodes) h (suc i) (suc j) inside within other =
    apart_again nodes (IsDistinct-tail meet node nodes h) i j (omega arith) (omega arith) (λ e. other (ap suc e))

module _ (p : ProblemParts) where
  pub above_again : (nodes other : List (List ℕ)) (calling : List ℕ) → IsPermutation nodes other → nodes_above p other calling ≡ nodes_above p nodes calling
  above_again nodes other calling moved = sum_by-IsPermutation _ nodes other moved

  pub independent_again : (found nodes other : List (List ℕ)) → IsPermutation nodes other → Independent p found nodes → Independent p found other
  independent_again found nodes other moved independent = record {
    nodes_apart = apart_again other (IsDistinct-IsPermutation meet meet_flips nodes other moved (distinct nodes independent.nodes_apart));
    found_apart = λ i j inside within.
        let each : All (λ node. is_above p node (get_or found j []) ≡ false) nodes =
        All-from_get_or (λ node. is_above p node (get_or found j []) ≡ false) nodes [] (λ k below. independent.found_apart k j below within) in
        All-get_or (λ node. is_above p node (get_or found j []) ≡ false) other i [] inside (All-permutation (λ node. is_above p node (get_or found j []) ≡ false) nodes other moved each);
  }

  pub splits_again : (job found rest other : List (List ℕ)) → IsPermutation rest other → Splits p job found rest → Splits p job found other
  splits_again job found rest other moved splits = record {
    each = λ calling kept. omega (arith, splits.each calling kept, above_again rest other calling moved);
    found_kept = splits.found_kept;
    rest_valid = All-permutation (λ node. IsValid p node × Any (λ above. is_prefix above node ≡ true) job) rest other moved splits.rest_valid;
    independent = independent_again found rest other moved splits.independent;
  }
