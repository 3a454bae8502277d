-- Independence from counts, and of the same nodes.
use Rattle.std.proofs.Common.{◌≡◌, ◌≢◌, ℕ, ◌<◌, ◌≤◌, true, cond, List, [], length, get_or, count_by, All, Contains, inl, inr, refl, sym, subst, bytes_eq, arith}
use Rattle.std.proofs.lemmas.Bool.{cases_lt, false_from_ne_true}
use Rattle.std.proofs.lemmas.Slice.Eq.{bytes_eq-Decides}
use Rattle.cr_model.specs.Problems.{ProblemParts}
use Rattle.cr_model.specs.Nodes.{is_prefix, is_above, nodes_above, Independent}
use Rattle.cr_model.proofs.Counting.{one_counts, two_count, none_passes, passing}
use Rattle.cr_model.proofs.Independence.{one_begins_each, none_above_found}
use Rattle.cr_model.proofs.Prefixes.{begins_itself}
use Rattle.cr_board.proofs.Sums.{HaveSame}

-- what is in a list is in each that has the same elements
pub same_contains : (xs ys : List (List ℕ)) → HaveSame xs ys → (k : ℕ) (d : List ℕ) → k < length ys → Contains xs (get_or ys k d)
same_contains xs ys same k d inside =
    let node = get_or ys k d in
    let counted = one_counts (bytes_eq node) ys k d inside ((bytes_eq-Decides node node).1 refl) in
    let (other, held, equal) = passing (bytes_eq node) xs (omega (arith, same (λ n. cond (bytes_eq node n) 1 0))) in
    subst (Contains xs) (sym ((bytes_eq-Decides node other).0 equal)) held

-- so what holds of all of one list holds of all of the other
pub same_all : (P : List ℕ → Type 0) (xs ys : List (List ℕ)) → HaveSame xs ys → All P xs → All P ys
same_all P xs ys same all k d inside =
    let (i, within, at) = same_contains xs ys same k d inside in
    subst P at (all i (get_or ys k d) within)

module _ (p : ProblemParts) (found nodes : List (List ℕ)) where
  -- nodes of which at most one begins each word, and none is above a found touch, are independent
  pub from_counts : ((word : List ℕ) → count_by (λ node. is_prefix node word) nodes ≤ 1)
      → ((j : ℕ) → j < length found → nodes_above p nodes (get_or found j []) ≡ 0) → Independent p found nodes
  from_counts one none = record {
    nodes_apart = λ i j inside within differ. false_from_ne_true (is_prefix (get_or nodes i []) (get_or nodes j [])) (λ begins. two_meet i j inside within differ begins);
    found_apart = λ i j inside within. none_passes (λ node. is_above p node (get_or found j [])) nodes [] (none j within) i inside;
  }
    where
      two_meet : (i j : ℕ) → i < length nodes → j < length nodes → i ≢ j → is_prefix (get_or nodes i []) (get_or nodes j []) ≡ true → ⊥
      two_meet i j inside within differ begins =
          let itself = begins_itself (get_or nodes j []) in
          elim (cases_lt i j) [
            | inl before ↦ absurd (omega (arith, one (get_or nodes j []), two_count (λ node. is_prefix node (get_or nodes j [])) nodes i j [] before within begins itself))
            | inr after ↦ elim (cases_lt j i) [
              | inl before ↦ absurd (omega (arith, one (get_or nodes j []), two_count (λ node. is_prefix node (get_or nodes j [])) nodes j i [] before inside itself begins))
              | inr equal ↦ differ (omega arith)
            ]
          ]

-- independence of the same nodes
pub same_independent : (p : ProblemParts) (found xs ys : List (List ℕ)) → HaveSame xs ys → Independent p found xs → Independent p found ys
same_independent p found xs ys same apart = from_counts p found ys
    (λ word. omega (arith, same (λ node. cond (is_prefix node word) 1 0), one_begins_each p found xs apart word))
    (λ j inside. omega (arith, same (λ node. cond (is_above p node (get_or found j [])) 1 0), none_above_found p found xs apart j inside))
