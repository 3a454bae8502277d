-- A turn on the last node of a split, nodes that are left out of one, and a split that leaves nothing.
use Rattle.std.proofs.Common.{◌≡◌, ℕ, ◌+◌, ◌≤◌, true, false, cond, List, [], ◌∷◌, ◌++◌, length, reverse, take, drop, take_at, drop_at, All, Any, get_or, refl, sym, ap, ap₂, ◌∙◌, arith, length-append}
use Rattle.std.proofs.lemmas.Bool.{false_from_ne_true}
use Rattle.std.proofs.lemmas.List.{get_or_append_left}
use Rattle.std.proofs.lemmas.List.Elements.{All-head, All-same, All-take, All-drop, All-weaker}
use Rattle.std.proofs.lemmas.List.Sums.{sum_by-cons, sum_by-append}
use Rattle.std.proofs.lemmas.List.Sorted.{IsPermutation-reverse, sum_by-IsPermutation}
use Rattle.cr_model.specs.Problems.{ProblemParts}
use Rattle.cr_model.specs.Dead.{HasNoneBelow}
use Rattle.cr_model.specs.Nodes.{part_of, is_prefix, is_above, IsValid, nodes_above, times_found, Independent, Splits}
use Rattle.cr_model.specs.OneTurn.{touch_found}
use Rattle.cr_model.specs.Sizes.{most_rows, live_children, size, size_of_all}
use Rattle.cr_model.specs.Touches.{Kept}
use Rattle.cr_model.proofs.Counting.{count_none}
use Rattle.cr_model.proofs.Independence.{one_begins_each}
use Rattle.cr_explore.proofs.AnyOrder.{splits_again}

-- the laws of a lower crate, for one problem
pub record TurnLaws (p : ProblemParts) : Type 0 where
  pub one : (node : List ℕ) → IsValid p node → Splits p (node ∷ []) (touch_found p node) (live_children p most_rows node)
  pub among : (job found rest others : List (List ℕ)) → Splits p job found rest → All (IsValid p) others → Independent p [] (others ++ job)
      → Splits p (others ++ job) found (others ++ rest)
  pub onward : (job found rest more left : List (List ℕ)) → Splits p job found rest → Splits p rest more left → Splits p job (found ++ more) left
  pub size_of_node : (node : List ℕ) → size p most_rows node ≡ 1 + size_of_all p most_rows (live_children p most_rows node)
  pub size_of_joined : (nodes more : List (List ℕ)) → size_of_all p most_rows (nodes ++ more) ≡ size_of_all p most_rows nodes + size_of_all p most_rows more

-- what holds of all of a list holds of its front, and of what stands behind that
front_all : (P : List ℕ → Type 0) (front rest : List (List ℕ)) → All P (front ++ rest) → All P front
front_all P front rest all = All-same P front (take (length front) (front ++ rest)) (sym (take_at front rest (length front) refl)) (All-take P (length front) (front ++ rest) all)

rest_all : (P : List ℕ → Type 0) (front rest : List (List ℕ)) → All P (front ++ rest) → All P rest
rest_all P front rest all = All-same P rest (drop (length front) (front ++ rest)) (sym (drop_at front rest (length front) refl)) (All-drop P (length front) (front ++ rest) all)

module _ (p : ProblemParts) (laws : TurnLaws p) where
  -- one turn more, on the last node that is left
  pub turned : (job found below : List (List ℕ)) (node : List ℕ) → Splits p job found (below ++ node ∷ [])
      → Splits p job (found ++ touch_found p node) (below ++ reverse (live_children p most_rows node))
  turned job found below node splits =
      let live = live_children p most_rows node in
      let valid : All (IsValid p) (below ++ node ∷ []) = λ k d inside. (splits.rest_valid k d inside).0 in
      let others : All (IsValid p) below = front_all (IsValid p) below (node ∷ []) valid in
      let here : IsValid p node = All-head (IsValid p) node [] (rest_all (IsValid p) below (node ∷ []) valid) in
      let alone : Independent p [] (below ++ node ∷ []) = record { nodes_apart = splits.independent.nodes_apart; found_apart = λ i j inside within. absurd (omega (arith, within)) } in
      let one = splits_again p (node ∷ []) (touch_found p node) live (reverse live) (IsPermutation-reverse live) (laws.one node here) in
      laws.onward job found (below ++ node ∷ []) (touch_found p node) (below ++ reverse live) splits (laws.among (node ∷ []) (touch_found p node) (reverse live) below one others alone)

  pub turned_size : (below : List (List ℕ)) (node : List ℕ) → size_of_all p most_rows (below ++ reverse (live_children p most_rows node)) + 1 ≡ size_of_all p most_rows (below ++ node ∷ [])
  turned_size below node =
      let live = live_children p most_rows node in
      let backwards : size_of_all p most_rows (reverse live) ≡ size_of_all p most_rows live = sum_by-IsPermutation (size p most_rows) live (reverse live) (IsPermutation-reverse live) in
      let alone : size_of_all p most_rows (node ∷ []) ≡ size p most_rows node = sum_by-cons (size p most_rows) node [] ∙ omega arith in
      omega (arith, backwards, alone, laws.size_of_node node, laws.size_of_joined below (node ∷ []), laws.size_of_joined below (reverse live))

-- nodes below which nothing is kept are above no kept touch
none_above : (p : ProblemParts) (passed : List (List ℕ)) (calling : List ℕ) → All (HasNoneBelow p) passed → Kept p calling → nodes_above p passed calling ≡ 0
none_above p passed calling none kept =
    count_none (λ node. is_above p node calling) passed
    (All-weaker (HasNoneBelow p) (λ node. is_above p node calling ≡ false) (λ node empty. false_from_ne_true (is_above p node calling) (λ above. empty calling kept above)) passed none)

-- they may be left out of what is left
pub left_out : (p : ProblemParts) (job found rest passed : List (List ℕ)) → All (HasNoneBelow p) passed → Splits p job found (rest ++ passed) → Splits p job found rest
left_out p job found rest passed none splits = record {
  each = λ calling kept.
      let joined : nodes_above p (rest ++ passed) calling ≡ nodes_above p rest calling + nodes_above p passed calling = sum_by-append (λ node. cond (is_above p node calling) 1 0) rest passed in
      omega (arith, splits.each calling kept, joined, none_above p passed calling none kept);
  found_kept = splits.found_kept;
  rest_valid = front_all (λ node. IsValid p node × Any (λ above. is_prefix above node ≡ true) job) rest passed splits.rest_valid;
  independent = record {
    nodes_apart = λ i j inside within differ.
        ap₂ is_prefix (sym (get_or_append_left rest passed [] i inside)) (sym (get_or_append_left rest passed [] j within))
        ∙ splits.independent.nodes_apart i j (omega (arith, length-append rest passed)) (omega (arith, length-append rest passed)) differ;
    found_apart = λ i j inside within.
        ap (λ node. is_above p node (get_or found j [])) (sym (get_or_append_left rest passed [] i inside))
        ∙ splits.independent.found_apart i j (omega (arith, length-append rest passed)) within;
  };
}

module _ (p : ProblemParts) (some : (node : List ℕ) → 1 ≤ size p most_rows node) where
  -- nodes are no more than their size
  no_more : (nodes : List (List ℕ)) → length nodes ≤ size_of_all p most_rows nodes
  no_more [] = omega arith
  no_more (node ∷ nodes) = omega (arith, some node, no_more nodes, sum_by-cons (size p most_rows) node nodes)

  -- so what is left is smaller by one at least for each that is left out
  pub left_out_size : (rest passed : List (List ℕ)) → size_of_all p most_rows rest + length passed ≤ size_of_all p most_rows (rest ++ passed)
  left_out_size rest passed =
      let joined : size_of_all p most_rows (rest ++ passed) ≡ size_of_all p most_rows rest + size_of_all p most_rows passed = sum_by-append (size p most_rows) rest passed in
      omega (arith, joined, no_more passed)

-- where nothing is left, each kept touch was found as often as nodes of the job are above it
pub found_as_often : (p : ProblemParts) (job found : List (List ℕ)) → Splits p job found [] → (calling : List ℕ) → Kept p calling → times_found found calling ≡ nodes_above p job calling
found_as_often p job found splits calling kept =
    let none : nodes_above p [] calling ≡ 0 = refl in
    omega (arith, splits.each calling kept)

-- which is once, where these are independent
pub found_once : (p : ProblemParts) (job found : List (List ℕ)) → Independent p [] job → Splits p job found [] → (calling : List ℕ) → Kept p calling → 1 ≤ nodes_above p job calling → times_found found calling ≡ 1
found_once p job found apart splits calling kept some =
    let most : nodes_above p job calling ≤ 1 = one_begins_each p [] job apart (part_of p calling) in
    omega (arith, found_as_often p job found splits calling kept)
