-- Items that do not overlap, and independence.
use Rattle.std.proofs.Common.{◌≡◌, ◌≢◌, ℕ, ◌+◌, ◌-◌, ◌<◌, ◌↔◌, false, List, [], length, get_or, map, inl, inr, refl, sym, ap, ap₂, ◌∙◌, arith, length-append}
use Rattle.std.proofs.lemmas.Bool.{cases_lt, or_parts, or_from}
use Rattle.std.proofs.lemmas.List.{get_or_append_left, get_or-append_right, get_or-map, length-map}
use Rattle.cr_model.specs.Problems.{ProblemParts}
use Rattle.cr_model.specs.Nodes.{is_prefix, is_above, Independent}
use Rattle.cr_node.specs.Overlaps.{Item, of_found, of_node, items, item_at, overlaps, ApartBelow}

module _ (p : ProblemParts) (found nodes : List (List ℕ)) where
  abbrev all : List Item
  all = items p found nodes

  number : length all ≡ length found + length nodes
  number = length-append (map (of_found p) found) (map of_node nodes) ∙ ap₂ ◌+◌ (length-map found (of_found p)) (length-map nodes of_node)

  found_at : (k : ℕ) → k < length found → item_at all k ≡ of_found p (get_or found k [])
  found_at k inside =
      let within : k < length (map (of_found p) found) = omega (arith, length-map found (of_found p)) in
      get_or_append_left (map (of_found p) found) (map of_node nodes) (of_node []) k within ∙ get_or-map (of_found p) found k [] (of_node []) inside

  node_at : (i j : ℕ) → j ≡ length found + i → i < length nodes → item_at all j ≡ of_node (get_or nodes i [])
  node_at i j is inside =
      let place : j - length found ≡ i = omega arith in
      get_or-append_right (map (of_found p) found) (map of_node nodes) (length found) j (of_node []) (length-map found (of_found p)) (omega arith)
      ∙ ap (λ k. get_or (map of_node nodes) k (of_node [])) place ∙ get_or-map of_node nodes i [] (of_node []) inside

  nodes_apart : ApartBelow all (length all) → (i j : ℕ) → i < length nodes → j < length nodes → i < j
      → overlaps (of_node (get_or nodes i [])) (of_node (get_or nodes j [])) ≡ false
  nodes_apart apart i j inside within less =
      ap₂ overlaps (sym (node_at i (length found + i) refl inside)) (sym (node_at j (length found + j) refl within))
      ∙ apart (length found + i) (length found + j) (omega arith) (omega (arith, number))

  both_apart : ApartBelow all (length all) → (i j : ℕ) → i < length nodes → j < length nodes → i ≢ j → is_prefix (get_or nodes i []) (get_or nodes j []) ≡ false
  both_apart apart i j inside within other = elim (cases_lt i j) [
    | inl less ↦
        (or_parts (is_prefix (get_or nodes i []) (get_or nodes j [])) (is_prefix (get_or nodes j []) (get_or nodes i [])) (nodes_apart apart i j inside within less)).0
    | inr above ↦
        (or_parts (is_prefix (get_or nodes j []) (get_or nodes i [])) (is_prefix (get_or nodes i []) (get_or nodes j [])) (nodes_apart apart j i within inside (omega arith))).1
  ]

  found_apart : ApartBelow all (length all) → (i j : ℕ) → i < length nodes → j < length found → is_above p (get_or nodes i []) (get_or found j []) ≡ false
  found_apart apart i j inside within =
      ap₂ overlaps (sym (found_at j within)) (sym (node_at i (length found + i) refl inside))
      ∙ apart j (length found + i) (omega arith) (omega (arith, number))

  later_node : Independent p found nodes → (i j : ℕ) → i < length found + j → j < length nodes → overlaps (item_at all i) (of_node (get_or nodes j [])) ≡ false
  later_node independent i j less within = elim (cases_lt i (length found)) [
    | inl early ↦ ap (λ item. overlaps item (of_node (get_or nodes j []))) (found_at i early) ∙ independent.found_apart j i within early
    | inr later ↦
        let inside : i - length found < length nodes = omega arith in
        let other : i - length found ≢ j = omega arith in
        let turned : j ≢ i - length found = omega arith in
        ap (λ item. overlaps item (of_node (get_or nodes j []))) (node_at (i - length found) i (omega arith) inside)
        ∙ or_from (is_prefix (get_or nodes (i - length found) []) (get_or nodes j [])) (is_prefix (get_or nodes j []) (get_or nodes (i - length found) []))
        (independent.nodes_apart (i - length found) j inside within other) (independent.nodes_apart j (i - length found) within inside turned)
  ]

  items_apart : Independent p found nodes → ApartBelow all (length all)
  items_apart independent i j less inside = elim (cases_lt j (length found)) [
    | inl early ↦ ap₂ overlaps (found_at i (omega arith)) (found_at j early)
    | inr later ↦
        let within : j - length found < length nodes = omega (arith, number) in
        ap (overlaps (item_at all i)) (node_at (j - length found) j (omega arith) within) ∙ later_node independent i (j - length found) (omega arith) within
  ]

  pub independent_where_apart : Independent p found nodes ↔ ApartBelow all (length all)
  independent_where_apart = (items_apart, λ apart. record { nodes_apart = both_apart apart; found_apart = found_apart apart })
