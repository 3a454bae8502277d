-- A search so far, told by where it stands, and turns.
use Rattle.std.proofs.Common.{◌≡◌, ℕ, ◌+◌, ◌≤◌, List, [], ◌++◌, length, take, take_all, reverse, sym, ap, ap₂, ◌∙◌, arith}
use Rattle.cr_model.specs.Problems.{ProblemParts}
use Rattle.cr_model.specs.OneTurn.{touch_found}
use Rattle.cr_model.specs.Sizes.{live_children}
use Rattle.cr_explore.specs.Stacks.{Place, place_at, live_from, left_below, stack_of, IsPlace, IsTaken, IsPathEnded}
use Rattle.cr_explore.specs.Turns.{Searched, after_turns}
use Rattle.cr_explore.proofs.Live.{all_live}
use Rattle.cr_explore.proofs.Stacks.{stack_tried, below_base}
use Rattle.cr_explore.proofs.Turning.{no_turn, turn_more, turns_end}

-- a search so far, with the nodes of its stack
abbrev pub so_far : List (List ℕ) → List (List ℕ) → ℕ → Searched
so_far found rest used = record { found = found; rest = rest; used = used }

-- the last node that is left was taken, and the path went there, whose problem is now told as q
pub record RunProgress (p : ProblemParts) (most : ℕ) (job : List (List ℕ)) (before : Place) (from : List ℕ) (q : ProblemParts) (left base next : ℕ) (to : List ℕ) : Type 0 where
  pub problem : q ≡ p
  pub place : IsPlace q (place_at 0 base next) to
  pub inside : left ≤ length job
  pub taken : IsTaken p most job before from (place_at left base next) to

module _ (p : ProblemParts) (most : ℕ) (job : List (List ℕ)) where
  -- before the first turn all of the job is left
  pub all_left : (base step : ℕ) (node : List ℕ) → base ≡ length node → step ≡ length p.leads → stack_of p most job (place_at (length job) base step) node ≡ job
  all_left base step node here all =
      let place : Place = place_at (length job) base step in
      stack_tried p most job place node all ∙ below_base p most job place node here ∙ take_all (length job) job (omega arith)

  pub starts : (found : List (List ℕ)) (base step : ℕ) (node : List ℕ) → found ≡ [] → base ≡ length node → step ≡ length p.leads
      → so_far found (stack_of p most job (place_at (length job) base step) node) 0 ≡ after_turns p most job 0
  starts found base step node none here all = ap₂ (λ f r. so_far f r 0) none (all_left base step node here all) ∙ sym (no_turn p most job)

  -- a node was taken, and all of its live children are still to be tried
  pub all_untried : (place : Place) (node : List ℕ) → place.next ≡ 0 → stack_of p most job place node ≡ left_below p most job place node ++ reverse (live_children p most node)
  all_untried place node first =
      ap (λ step. left_below p most job place node ++ reverse (live_from p most node step)) first ∙ ap (λ nodes. left_below p most job place node ++ reverse nodes) (all_live p most node)

  -- one turn more
  pub goes_on : (before : Place) (from : List ℕ) (after : Place) (to : List ℕ) (found more : List (List ℕ)) (used : ℕ) → IsTaken p most job before from after to
      → more ≡ found ++ touch_found p to → so_far found (stack_of p most job before from) used ≡ after_turns p most job used
      → so_far more (stack_of p most job after to) (used + 1) ≡ after_turns p most job (used + 1)
  goes_on before from after to found more used taken finds h =
      ap₂ (λ f r. so_far f r (used + 1)) finds (all_untried after to taken.next)
      ∙ turn_more p most job used found (left_below p most job after to) to used (ap (λ r. so_far found r used) (sym taken.last) ∙ h)

  -- where nothing is left
  pub ends : (before : Place) (from : List ℕ) (after : Place) (to : List ℕ) (found : List (List ℕ)) (used number : ℕ) → IsPathEnded p most job before from after to
      → before.left ≡ 0 → after.left ≡ 0 → used ≤ number
      → so_far found (stack_of p most job before from) used ≡ after_turns p most job used
      → so_far found (stack_of p most job after to) used ≡ after_turns p most job number
  ends before from after to found used number ended first now few h =
      let none : stack_of p most job before from ≡ [] = ended.first ∙ ap (λ n. take n job) first in
      ap (λ r. so_far found r used) (ended.now ∙ ap (λ n. take n job) now)
      ∙ turns_end p most job used number found used few (ap (λ r. so_far found r used) (sym none) ∙ h)
