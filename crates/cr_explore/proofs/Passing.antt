-- A search that passes nodes by, turn by turn.
use Rattle.std.proofs.Common.{◌≡◌, ℕ, ◌+◌, ◌≤◌, List, [], ◌∷◌, ◌++◌, length, take, reverse, All, inl, inr, sym, ap, ◌∙◌, subst, arith}
use Rattle.std.proofs.lemmas.List.Elements.{All-nil, All-cons}
use Rattle.cr_model.specs.Problems.{ProblemParts}
use Rattle.cr_model.specs.Dead.{HasNoneBelow}
use Rattle.cr_model.specs.Nodes.{Splits}
use Rattle.cr_model.specs.OneTurn.{touch_found}
use Rattle.cr_model.specs.Sizes.{most_rows, live_children, size_of_all}
use Rattle.cr_node.specs.Work.{IsDone}
use Rattle.cr_explore.specs.Stacks.{Place, place_at, left_below, stack_of, IsPlace, IsTaken, IsPathEnded}
use Rattle.cr_explore.specs.Passing.{IsDealtWith, IsSplitSoFar}
use Rattle.cr_explore.proofs.Stacks.{stack_tried}
use Rattle.cr_explore.proofs.Taking.{all_left, all_untried}

-- what is known of turns and of nodes that are passed by, for one problem
pub record PassLaws (p : ProblemParts) : Type 0 where
  pub turned : (job found below : List (List ℕ)) (node : List ℕ) → Splits p job found (below ++ node ∷ [])
      → Splits p job (found ++ touch_found p node) (below ++ reverse (live_children p most_rows node))
  pub turned_size : (below : List (List ℕ)) (node : List ℕ) → size_of_all p most_rows (below ++ reverse (live_children p most_rows node)) + 1 ≡ size_of_all p most_rows (below ++ node ∷ [])
  pub passed : (job found rest passed : List (List ℕ)) → All (HasNoneBelow p) passed → Splits p job found (rest ++ passed) → Splits p job found rest
  pub passed_size : (rest passed : List (List ℕ)) → size_of_all p most_rows rest + length passed ≤ size_of_all p most_rows (rest ++ passed)

-- a node that was dealt with is still the place of the search
pub still_place : (p : ProblemParts) (base next after : ℕ) (node : List ℕ) (found now : List (List ℕ)) → IsPlace p (place_at 0 base next) node
    → IsDealtWith p node found next now after → IsPlace p (place_at 0 base after) node
still_place p base next after node found now place dealt =
    let few : after ≤ length p.leads = elim dealt [ inl taken ↦ omega (arith, place.next, taken.1) | inr passed ↦ omega (arith, passed.2) ] in
    record { sound = place.sound; valid = place.valid; below = place.below; next = few }

module _ (p : ProblemParts) (job : List (List ℕ)) where
  -- before the first turn
  pub begins : (found : List (List ℕ)) (base next : ℕ) (node : List ℕ) → IsDone p job [] job 0 → found ≡ [] → base ≡ length node → next ≡ length p.leads
      → IsSplitSoFar p job found (stack_of p most_rows job (place_at (length job) base next) node) 0
  begins found base next node done none here all =
      let whole : stack_of p most_rows job (place_at (length job) base next) node ≡ job = all_left p most_rows job base next node here all in
      record {
        splits = subst (λ f. Splits p job f (stack_of p most_rows job (place_at (length job) base next) node)) (sym none) (subst (Splits p job []) (sym whole) done.splits);
        smaller = omega (arith, ap (size_of_all p most_rows) whole);
      }

  -- one node more
  pub goes_on : PassLaws p → (before : Place) (from : List ℕ) (left base next after : ℕ) (to : List ℕ) (found now : List (List ℕ)) (used : ℕ)
      → IsTaken p most_rows job before from (place_at left base next) to → IsDealtWith p to found next now after
      → IsSplitSoFar p job found (stack_of p most_rows job before from) used
      → IsSplitSoFar p job now (stack_of p most_rows job (place_at left base after) to) (used + 1)
  goes_on laws before from left base next after to found now used taken dealt so_far =
      let place = place_at left base after in
      let below = left_below p most_rows job place to in
      let splits : Splits p job found (below ++ to ∷ []) = subst (Splits p job found) taken.last so_far.splits in
      let last : size_of_all p most_rows (stack_of p most_rows job before from) ≡ size_of_all p most_rows (below ++ to ∷ []) = ap (size_of_all p most_rows) taken.last in
      elim dealt [
        | inl finds ↦
            let rest : stack_of p most_rows job place to ≡ below ++ reverse (live_children p most_rows to) = all_untried p most_rows job place to (finds.1 ∙ taken.next) in
            record {
              splits = subst (λ f. Splits p job f (stack_of p most_rows job place to)) (sym finds.0)
                  (subst (Splits p job (found ++ touch_found p to)) (sym rest) (laws.turned job found below to splits));
              smaller = omega (arith, so_far.smaller, last, laws.turned_size below to, ap (size_of_all p most_rows) rest);
            }
        | inr passes ↦
            let rest : stack_of p most_rows job place to ≡ below = stack_tried p most_rows job place to passes.2 in
            let none : All (HasNoneBelow p) (to ∷ []) = All-cons (HasNoneBelow p) to [] passes.0 (All-nil (HasNoneBelow p)) in
            record {
              splits = subst (λ f. Splits p job f (stack_of p most_rows job place to)) (sym passes.1)
                  (subst (Splits p job found) (sym rest) (laws.passed job found below (to ∷ []) none splits));
              smaller = omega (arith, so_far.smaller, last, laws.passed_size below (to ∷ []), ap (size_of_all p most_rows) rest);
            }
      ]

  -- where nothing is left of the job, nothing is left at all
  module _ (before : Place) (from : List ℕ) (after : Place) (to : List ℕ) (ended : IsPathEnded p most_rows job before from after to) (first : before.left ≡ 0) (now : after.left ≡ 0) where
    pub none_left : stack_of p most_rows job after to ≡ []
    none_left = ended.now ∙ ap (λ n. take n job) now

    pub ends : (found : List (List ℕ)) (used : ℕ) → IsSplitSoFar p job found (stack_of p most_rows job before from) used → IsSplitSoFar p job found (stack_of p most_rows job after to) used
    ends found used so_far =
        let none : stack_of p most_rows job before from ≡ [] = ended.first ∙ ap (λ n. take n job) first in
        subst (λ rest. IsSplitSoFar p job found rest used) (none ∙ sym none_left) so_far
