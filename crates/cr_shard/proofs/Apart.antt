-- Independence, by the order of nodes.
use Rattle.std.proofs.Common.{◌≡◌, ◌≢◌, ℕ, ◌<◌, Bool, false, ◌||◌, List, [], length, get_or, inl, inr, sym, ap, ap₂, ◌∙◌, arith}
use Rattle.std.specs.Prelude.{Contains, All}
use Rattle.std.specs.List.{IsDistinct}
use Rattle.std.proofs.lemmas.Bool.{true≢false, cases_lt, or_parts, or_from}
use Rattle.std.proofs.lemmas.List.{get_or_default}
use Rattle.std.proofs.lemmas.Map.Keys.{IsDistinct-from_apart, apart_from_distinct}
use Rattle.cr_model.specs.Problems.{ProblemParts}
use Rattle.cr_model.specs.Nodes.{is_prefix, is_above, IsAbove, Independent}

-- one of two nodes begins the other
abbrev pub alike : List ℕ → List ℕ → Bool
alike node other = is_prefix node other || is_prefix other node

-- each node is above none of the touches
abbrev pub NoneAbove : ProblemParts → List (List ℕ) → List (List ℕ) → Type 0
NoneAbove p found nodes = All (λ node. (j : ℕ) → j < length found → is_above p node (get_or found j []) ≡ false) nodes

module _ (p : ProblemParts) (found nodes : List (List ℕ)) where
  pub nodes_distinct : Independent p found nodes → IsDistinct alike nodes
  nodes_distinct independent = IsDistinct-from_apart alike nodes (λ i j d less inside.
      let one : i ≢ j = omega arith in
      let two : j ≢ i = omega arith in
      let within : i < length nodes = omega arith in
      ap₂ alike (get_or_default nodes i d [] within) (get_or_default nodes j d [] inside)
      ∙ or_from (is_prefix (get_or nodes i []) (get_or nodes j [])) (is_prefix (get_or nodes j []) (get_or nodes i []))
      (independent.nodes_apart i j within inside one) (independent.nodes_apart j i inside within two))

  pub none_above : Independent p found nodes → NoneAbove p found nodes
  none_above independent = λ i d inside j within.
      ap (λ node. is_above p node (get_or found j [])) (get_or_default nodes i d [] inside) ∙ independent.found_apart i j inside within

  apart_at : IsDistinct alike nodes → (i j : ℕ) → i < length nodes → j < length nodes → i ≢ j
      → is_prefix (get_or nodes i []) (get_or nodes j []) ≡ false
  apart_at distinct i j inside within other = elim (cases_lt i j) [
    | inl less ↦
        (or_parts (is_prefix (get_or nodes i []) (get_or nodes j [])) (is_prefix (get_or nodes j []) (get_or nodes i []))
        (apart_from_distinct alike nodes i j [] distinct less within)).0
    | inr above ↦
        (or_parts (is_prefix (get_or nodes j []) (get_or nodes i [])) (is_prefix (get_or nodes i []) (get_or nodes j []))
        (apart_from_distinct alike nodes j i [] distinct (omega arith) inside)).1
  ]

  pub independent_from : IsDistinct alike nodes → NoneAbove p found nodes → Independent p found nodes
  independent_from distinct none = record {
    nodes_apart = apart_at distinct;
    found_apart = λ i j inside within. none i [] inside j within;
  }

  -- a node is above no touch that was found
  pub above_none : Independent p found nodes → (node touch : List ℕ) → Contains nodes node → Contains found touch → IsAbove p node touch → ⊥
  above_none independent node touch held seen above =
      let none = independent.found_apart held.0 seen.0 held.1 seen.1 in
      let is : get_or nodes held.0 [] ≡ node = get_or_default nodes held.0 [] node held.1 ∙ held.2 in
      let are : get_or found seen.0 [] ≡ touch = get_or_default found seen.0 [] touch seen.1 ∙ seen.2 in
      true≢false (sym above ∙ ap₂ (is_above p) (sym is) (sym are) ∙ none)
