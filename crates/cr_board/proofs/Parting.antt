-- A partition is kept where the same nodes stand elsewhere, and where work on some of them is handed in.
use Rattle.std.proofs.Common.{◌≡◌, ℕ, ◌+◌, ◌-◌, ◌<◌, false, cond, List, [], ◌++◌, length, get_or, All, inl, inr, refl, ap, ◌∙◌, subst, bytes_eq, arith, length-append}
use Rattle.std.proofs.lemmas.Bool.{cases_lt}
use Rattle.std.proofs.lemmas.List.{get_or_append_left, get_or-append_right}
use Rattle.std.proofs.lemmas.List.Elements.{All-append}
use Rattle.std.proofs.lemmas.List.Sums.{sum_by-append}
use Rattle.cr_model.specs.Problems.{ProblemParts}
use Rattle.cr_model.specs.Touches.{Kept}
use Rattle.cr_model.specs.Nodes.{is_above, IsValid, times_found, Independent, Splits}
use Rattle.cr_model.specs.Sizes.{most_rows, size, size_of_all}
use Rattle.cr_board.specs.Partitions.{IsPartition}
use Rattle.cr_board.proofs.Sums.{HaveSame}
use Rattle.cr_model.proofs.Counting.{none_passes}
use Rattle.cr_model.proofs.Independence.{none_above_found}
use Rattle.cr_board.proofs.Apart.{same_all, same_independent}

-- what a law of splits says
abbrev pub AmongOthers : Type 0
AmongOthers = (p : ProblemParts) (job found rest others : List (List ℕ)) → Splits p job found rest
    → All (IsValid p) others → Independent p [] (others ++ job) → Splits p (others ++ job) found (others ++ rest)

-- the same nodes elsewhere
pub moved : (p : ProblemParts) (found nodes now xs ys : List (List ℕ)) (spent : ℕ) → HaveSame xs ys
    → IsPartition p found nodes now xs spent → IsPartition p found nodes now ys spent
moved p found nodes now xs ys spent same part = record {
  each = λ calling kept. omega (arith, part.each calling kept, same (λ node. cond (is_above p node calling) 1 0));
  kept = part.kept;
  independent = same_independent p now xs ys same part.independent;
  valid = same_all (IsValid p) xs ys same part.valid;
  size = omega (arith, part.size, same (size p most_rows));
}

module _ (among : AmongOthers) (p : ProblemParts) (found nodes now job more rest others : List (List ℕ)) (spent used : ℕ)
    (part : IsPartition p found nodes now (others ++ job) spent) (splits : Splits p job more rest)
    (sizes : size_of_all p most_rows rest + used ≡ size_of_all p most_rows job) where
  -- the split of all nodes
  split_of_all : Splits p (others ++ job) more (others ++ rest)
  split_of_all = among p job more rest others splits
      (λ k d inside. subst (IsValid p) (get_or_append_left others job d k inside) (part.valid k d (omega (arith, length-append others job))))
      (record { nodes_apart = part.independent.nodes_apart; found_apart = λ i j inside within. absurd (omega arith) })

  -- no node that is left is above what was found
  found_apart : (i j : ℕ) → i < length (others ++ rest) → j < length (now ++ more) → is_above p (get_or (others ++ rest) i []) (get_or (now ++ more) j []) ≡ false
  found_apart i j inside within = elim (cases_lt j (length now)) [
    | inl first ↦
        let none = none_above_found p now (others ++ job) part.independent j first in
        let each = split_of_all.each (get_or now j []) (part.kept j [] first) in
        ap (λ calling. is_above p (get_or (others ++ rest) i []) calling) (get_or_append_left now more [] j first)
        ∙ none_passes (λ node. is_above p node (get_or now j [])) (others ++ rest) [] (omega (arith, none, each)) i inside
    | inr later ↦
        ap (λ calling. is_above p (get_or (others ++ rest) i []) calling) (get_or-append_right now more (length now) j [] refl later)
        ∙ split_of_all.independent.found_apart i (j - length now) inside (omega (arith, length-append now more))
  ]

  -- work on a job is handed in
  pub handed_over : IsPartition p found nodes (now ++ more) (others ++ rest) (spent + used)
  handed_over = record {
    each = λ calling kept.
        let times : times_found (now ++ more) calling ≡ times_found now calling + times_found more calling = sum_by-append (λ c. cond (bytes_eq calling c) 1 0) now more in
        omega (arith, part.each calling kept, split_of_all.each calling kept, times);
    kept = All-append (Kept p) now more part.kept (λ k d inside. (split_of_all.found_kept k d inside).0);
    independent = record { nodes_apart = split_of_all.independent.nodes_apart; found_apart = found_apart };
    valid = λ k d inside. (split_of_all.rest_valid k d inside).0;
    size = omega (arith, part.size, sizes, sum_by-append (size p most_rows) others job, sum_by-append (size p most_rows) others rest);
  }

-- found touches and nodes are a partition of themselves
pub begun : (p : ProblemParts) (found nodes : List (List ℕ)) → All (Kept p) found → All (IsValid p) nodes → Independent p found nodes
    → IsPartition p found nodes found nodes 0
begun p found nodes kept valid apart = record { each = λ calling is. refl; kept = kept; independent = apart; valid = valid; size = omega arith }

module _ (p : ProblemParts) (found nodes now left more rest : List (List ℕ)) (spent used : ℕ)
    (part : IsPartition p found nodes now left spent) (later : IsPartition p [] left more rest used) where
  -- no node that is left is above what either found
  all_apart : (i j : ℕ) → i < length rest → j < length (now ++ more) → is_above p (get_or rest i []) (get_or (now ++ more) j []) ≡ false
  all_apart i j inside within = elim (cases_lt j (length now)) [
    | inl first ↦
        let none = none_above_found p now left part.independent j first in
        let each = later.each (get_or now j []) (part.kept j [] first) in
        ap (λ calling. is_above p (get_or rest i []) calling) (get_or_append_left now more [] j first)
        ∙ none_passes (λ node. is_above p node (get_or now j [])) rest [] (omega (arith, none, each)) i inside
    | inr after ↦
        ap (λ calling. is_above p (get_or rest i []) calling) (get_or-append_right now more (length now) j [] refl after)
        ∙ later.independent.found_apart i (j - length now) inside (omega (arith, length-append now more))
  ]

  -- a search of what was left goes on
  pub onward : IsPartition p found nodes (now ++ more) rest (spent + used)
  onward = record {
    each = λ calling kept.
        let times : times_found (now ++ more) calling ≡ times_found now calling + times_found more calling = sum_by-append (λ c. cond (bytes_eq calling c) 1 0) now more in
        omega (arith, part.each calling kept, later.each calling kept, times);
    kept = All-append (Kept p) now more part.kept later.kept;
    independent = record { nodes_apart = later.independent.nodes_apart; found_apart = all_apart };
    valid = later.valid;
    size = omega (arith, part.size, later.size);
  }
