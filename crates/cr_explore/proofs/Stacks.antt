-- What is left, as the path goes down and up.
use Rattle.std.proofs.Common.{◌≡◌, ℕ, ◌+◌, ◌≤◌, List, [], ◌∷◌, ◌++◌, length, take, drop, reverse, None, refl, sym, ap, ap₂, ◌∙◌, arith, append-nil, append_assoc, take-append-drop}
use Rattle.std.proofs.lemmas.List.{reverse-append, take-append-le, drop-append-le, drop_all}
use Rattle.cr_model.specs.Problems.{ProblemParts}
use Rattle.cr_model.specs.Sizes.{child}
use Rattle.cr_explore.specs.Stacks.{Place, first_live, live_from, untried, left_below, stack_of}
use Rattle.cr_explore.proofs.Live.{IsFirstLive, none_live, none_past}

-- one more in front is the last one backwards
pub reverse_first : {X : Type 0} (x : X) (xs : List X) → reverse (x ∷ xs) ≡ reverse xs ++ x ∷ []
reverse_first x xs = reverse-append (x ∷ []) xs

module _ (p : ProblemParts) (most : ℕ) where
  -- a path of one step more
  untried_more : (node path : List ℕ) (step : ℕ) → untried p most node (path ++ step ∷ []) ≡ untried p most node path ++ reverse (live_from p most (node ++ path) (step + 1))
  unfolding untried
  untried_more node [] step =
      append-nil (reverse (live_from p most node (step + 1))) ∙ ap (λ n. reverse (live_from p most n (step + 1))) (sym (append-nil node))
  untried_more node (x ∷ path) step =
      ap (λ rest. reverse (live_from p most node (x + 1)) ++ rest) (untried_more (child node x) path step ∙ ap (λ n. untried p most (child node x) path ++ reverse (live_from p most n (step + 1))) (append_assoc node (x ∷ []) path))
      ∙ sym (append_assoc (reverse (live_from p most node (x + 1))) (untried p most (child node x) path) (reverse (live_from p most (node ++ x ∷ path) (step + 1))))

  -- no path
  untried_none : (node : List ℕ) → untried p most node [] ≡ []
  unfolding untried
  untried_none node = refl

  -- from a node down to a child
  untried_child : (base : ℕ) (node : List ℕ) (step : ℕ) → base ≤ length node
      → untried p most (take base (child node step)) (drop base (child node step)) ≡ untried p most (take base node) (drop base node) ++ reverse (live_from p most node (step + 1))
  untried_child base node step below =
      ap₂ (untried p most) (take-append-le base node (step ∷ []) below) (drop-append-le base node (step ∷ []) below)
      ∙ untried_more (take base node) (drop base node) step
      ∙ ap (λ n. untried p most (take base node) (drop base node) ++ reverse (live_from p most n (step + 1))) (take-append-drop base node)

module _ (p : ProblemParts) (most : ℕ) (job : List (List ℕ)) where
  -- what is left below a child
  below_child : (place : Place) (node : List ℕ) (step : ℕ) → place.base ≤ length node
      → left_below p most job place (child node step) ≡ left_below p most job place node ++ reverse (live_from p most node (step + 1))
  below_child place node step below =
      ap (λ rest. take place.left job ++ rest) (untried_child p most place.base node step below)
      ∙ sym (append_assoc (take place.left job) (untried p most (take place.base node) (drop place.base node)) (reverse (live_from p most node (step + 1))))

  -- down to the first live child, which was the last that was left
  pub stack_down : (place : Place) (node : List ℕ) (step : ℕ) → place.base ≤ length node → IsFirstLive p most node place.next step
      → stack_of p most job place node ≡ left_below p most job place (child node step) ++ child node step ∷ []
  stack_down place node step below first =
      ap (λ rest. left_below p most job place node ++ rest) (ap reverse first.more ∙ reverse_first (child node step) (live_from p most node (step + 1)))
      ∙ sym (append_assoc (left_below p most job place node) (reverse (live_from p most node (step + 1))) (child node step ∷ []))
      ∙ ap (λ rest. rest ++ child node step ∷ []) (sym (below_child place node step below))

  -- a node without a live child
  pub stack_dry : (place : Place) (node : List ℕ) → first_live p most node place.next ≡ None → stack_of p most job place node ≡ left_below p most job place node
  stack_dry place node none =
      ap (λ rest. left_below p most job place node ++ reverse rest) (none_live p most node place.next none) ∙ append-nil (left_below p most job place node)

  -- back up from it
  pub stack_up : (place : Place) (node : List ℕ) (step : ℕ) → place.base ≤ length node → first_live p most (child node step) place.next ≡ None
      → stack_of p most job place (child node step) ≡ stack_of p most job (record place { next = step + 1 }) node
  stack_up place node step below none = stack_dry place (child node step) none ∙ below_child place node step below

  -- at the job's node nothing is untried above
  pub below_base : (place : Place) (node : List ℕ) → place.base ≡ length node → left_below p most job place node ≡ take place.left job
  below_base place node here =
      ap (λ rest. take place.left job ++ untried p most (take place.base node) rest) (drop_all place.base node (omega arith))
      ∙ ap (λ rest. take place.left job ++ rest) (untried_none p most (take place.base node)) ∙ append-nil (take place.left job)

  -- a node of which all steps are tried
  pub stack_tried : (place : Place) (node : List ℕ) → place.next ≡ length p.leads → stack_of p most job place node ≡ left_below p most job place node
  stack_tried place node all =
      ap (λ rest. left_below p most job place node ++ reverse rest) (ap (live_from p most node) all ∙ none_past p most node) ∙ append-nil (left_below p most job place node)
