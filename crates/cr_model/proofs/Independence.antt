-- Independent nodes as counts: at most one begins a word, and none is above a found touch.
use Rattle.std.proofs.Common.{◌≡◌, ℕ, ◌<◌, ◌≤◌, List, [], length, get_or, count_by, inl, inr, sym, ◌∙◌, arith}
use Rattle.std.proofs.lemmas.Bool.{true≢false}
use Rattle.cr_model.specs.Problems.{ProblemParts}
use Rattle.cr_model.specs.Nodes.{is_prefix, is_above, nodes_above, Independent}
use Rattle.cr_model.proofs.Counting.{few_count, none_count}
use Rattle.cr_model.proofs.Prefixes.{one_begins}

module _ (p : ProblemParts) (found nodes : List (List ℕ)) (apart : Independent p found nodes) where
  pub one_begins_each : (word : List ℕ) → count_by (λ node. is_prefix node word) nodes ≤ 1
  one_begins_each word =
      few_count (λ node. is_prefix node word) nodes [] (λ i j before inside one two. elim (one_begins (get_or nodes i []) (get_or nodes j []) word one two) [
        | inl h ↦ true≢false (sym h ∙ apart.nodes_apart i j (omega arith) inside (λ e. omega arith))
        | inr h ↦ true≢false (sym h ∙ apart.nodes_apart j i inside (omega arith) (λ e. omega arith))
      ])

  pub none_above_found : (j : ℕ) → j < length found → nodes_above p nodes (get_or found j []) ≡ 0
  none_above_found j inside = none_count (λ node. is_above p node (get_or found j [])) nodes [] (λ i within. apart.found_apart i j within inside)
