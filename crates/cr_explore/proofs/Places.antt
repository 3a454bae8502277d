-- Where a search stands, as its path goes down and up.
use Rattle.std.proofs.Common.{◌≡◌, ℕ, ◌+◌, ◌-◌, ◌<◌, ◌≤◌, true, false, List, [], ◌∷◌, ◌++◌, length, get_or, take, Option, Some, None, is_some, IfNone, IfSome, refl, sym, ap, ◌∙◌, ap₂, append_assoc, reverse, subst, arith}
use Rattle.std.proofs.lemmas.Bool.{true≢false}
use Rattle.std.proofs.lemmas.List.{length_push, get_or_push, get_or_append_left, take_more, reverse-append}
use Rattle.cr_model.specs.Problems.{ProblemParts}
use Rattle.cr_model.specs.Nodes.{IsValid}
use Rattle.cr_model.specs.Sound.{IsSound}
use Rattle.cr_model.specs.Dead.{dead}
use Rattle.cr_model.specs.Sizes.{child}
use Rattle.cr_model.proofs.Ringing.{lengths_on}
use Rattle.cr_explore.specs.Stacks.{Place, place_at, first_live, left_below, stack_of, IsPlace, IsTaken, IsPathEnded}
use Rattle.cr_explore.proofs.Live.{first_live_is}
use Rattle.cr_explore.proofs.Stacks.{stack_down, stack_dry, stack_up, stack_tried, below_base}

module _ (p : ProblemParts) (most : ℕ) (from : List ℕ) (next : ℕ) (to : List ℕ) (after : ℕ) where
  -- it found none
  down_none : (found : Option ℕ) → is_some found ≡ false → found ≡ first_live p most from next → IfNone found ((to ≡ from) × (after ≡ length p.leads))
      → (first_live p most from next ≡ None) × (to ≡ from) × (after ≡ length p.leads)
  down_none None h step stays = (sym step, stays.0, stays.1)
  down_none (Some x) h step stays = absurd (true≢false h)

  -- it found one
  down_some : (found : Option ℕ) → is_some found ≡ true → found ≡ first_live p most from next → IfSome found (λ step. (to ≡ child from step) × (after ≡ 0))
      → (step : ℕ) × (first_live p most from next ≡ Some step) × (to ≡ child from step) × (after ≡ 0)
  down_some None h step goes = absurd (true≢false (sym h))
  down_some (Some x) h step goes = (x, sym step, goes.0, goes.1)

-- the node above a valid child is valid, and the child's step is one of the problem's
pub valid_above : (p : ProblemParts) (node : List ℕ) (step : ℕ) → IsValid p (child node step) → IsValid p node × (step < length p.leads)
valid_above p node step valid = (
  record {
    steps = λ k d inside.
        let at : get_or (child node step) k d ≡ get_or node k d = get_or_append_left node (step ∷ []) d k inside in
        subst (λ (s : ℕ). s < length p.leads) at (valid.steps k d (omega (arith, length_push node step)));
    short = omega (arith, valid.short, lengths_on p node (step ∷ []));
  },
  subst (λ (s : ℕ). s < length p.leads) (get_or_push node step 0 (length node) refl) (valid.steps (length node) 0 (omega (arith, length_push node step))),
)

-- a path goes down from a node, or finds that it can't
module _ (p : ProblemParts) (most base next : ℕ) (node to : List ℕ) (after : ℕ) (found : Option ℕ) (at : IsPlace p (place_at 0 base next) node) (is : found ≡ first_live p most node next) where
  module _ (none : is_some found ≡ false) (stays : IfNone found ((to ≡ node) × (after ≡ length p.leads))) where
    -- it stays at a node without a live child
    pub dry_is_place : IsPlace p (place_at 0 base after) to
    dry_is_place =
        let (dry, same, all) = down_none p most node next to after found none is stays in
        record { sound = at.sound; valid = subst (IsValid p) (sym same) at.valid; below = omega (arith, at.below, ap length same); next = omega (arith, all) }

    -- above the node where the path began there are steps
    pub up_has_steps : (length to ≡ base → ⊥) → 0 < length to
    up_has_steps other = let place = dry_is_place in omega (arith, place.below)

    -- back up from it
    module _ (above : List ℕ) (step now : ℕ) (is_child : to ≡ child above step) (tried : now ≡ step + 1) where
      pub up_is_place : (length to ≡ base → ⊥) → IsPlace p (place_at 0 base now) above
      up_is_place other =
          let (dry, same, all) = down_none p most node next to after found none is stays in
          let whole : node ≡ child above step = sym same ∙ is_child in
          let longer : length node ≡ length above + 1 = ap length whole ∙ length_push above step in
          let (valid, inside) = valid_above p above step (subst (IsValid p) whole at.valid) in
          record { sound = at.sound; valid = valid; below = omega (arith, at.below, ap length same); next = omega (arith, inside) }

      pub up_shorter : length above < length node
      up_shorter =
          let (dry, same, all) = down_none p most node next to after found none is stays in
          omega (arith, ap length (sym same ∙ is_child), length_push above step)

      pub up_same : (length to ≡ base → ⊥) → (left : ℕ) (job : List (List ℕ))
          → stack_of p most job (place_at left base next) node ≡ stack_of p most job (place_at left base now) above
      up_same other left job =
          let (dry, same, all) = down_none p most node next to after found none is stays in
          let whole : node ≡ child above step = sym same ∙ is_child in
          let longer : length node ≡ length above + 1 = ap length whole ∙ length_push above step in
          let first : first_live p most (child above step) next ≡ None = ap (λ n. first_live p most n next) (sym whole) ∙ dry in
          ap (stack_of p most job (place_at left base next)) whole
          ∙ stack_up p most job (place_at left base next) above step (omega (arith, at.below, ap length same)) first
          ∙ ap (λ n. stack_of p most job (place_at left base n) above) (sym tried)

    -- at the node where the path began
    pub path_ended : (left : ℕ) (job : List (List ℕ)) (before : Place) (from : List ℕ) → stack_of p most job before from ≡ stack_of p most job (place_at left base next) node
        → left ≡ before.left → length to ≡ base → IsPathEnded p most job before from (place_at left base after) to
    path_ended left job before from stack taken here =
        let (dry, same, all) = down_none p most node next to after found none is stays in
        let ended : stack_of p most job (place_at left base next) node ≡ take left job =
        stack_dry p most job (place_at left base next) node dry ∙ below_base p most job (place_at left base next) node (sym here ∙ ap length same) in
        record {
          first = stack ∙ ended ∙ ap (λ n. take n job) taken;
          now = stack_tried p most job (place_at left base after) to all ∙ below_base p most job (place_at left base after) to (sym here);
        }

  module _ (some : is_some found ≡ true) (goes : IfSome found (λ step. (to ≡ child node step) × (after ≡ 0))) where
    pub down_is_place : ((node : List ℕ) (step : ℕ) → IsSound p → IsValid p node → step < length p.leads → dead p most (child node step) ≡ None → IsValid p (child node step))
        → IsPlace p (place_at 0 base after) to
    down_is_place child_valid =
        let (step, first, whole, none) = down_some p most node next to after found some is goes in
        let live = first_live_is p most node next step at.next first in
        record {
          sound = at.sound;
          valid = subst (IsValid p) (sym whole) (child_valid node step at.sound at.valid live.inside live.live);
          below = omega (arith, at.below, ap length whole, length_push node step);
          next = omega (arith, none);
        }

    pub down_taken : (left : ℕ) (job : List (List ℕ)) (before : Place) (from : List ℕ) → stack_of p most job before from ≡ stack_of p most job (place_at left base next) node
        → IsTaken p most job before from (place_at left base after) to
    down_taken left job before from stack =
        let (step, first, whole, none) = down_some p most node next to after found some is goes in
        let live = first_live_is p most node next step at.next first in
        record {
          next = none;
          last = stack ∙ stack_down p most job (place_at left base next) node step at.below live
              ∙ ap (λ n. left_below p most job (place_at left base next) n ++ n ∷ []) (sym whole);
        }

module _ (p : ProblemParts) (most : ℕ) (job : List (List ℕ)) where
  -- the last node of the job that is not taken yet
  pub job_taken : (before : Place) (from : List ℕ) (number next : ℕ) (to : List ℕ) → stack_of p most job before from ≡ take number job
      → 0 < number → number ≤ length job → to ≡ get_or job (number - 1) to → next ≡ 0
      → IsTaken p most job before from (place_at (number - 1) (length to) next) to
  job_taken before from number next to stack some inside is none =
      let last : number ≡ number - 1 + 1 = omega arith in
      record {
        next = none;
        last =
            stack ∙ ap (λ n. take n job) last ∙ take_more job (number - 1) to (omega arith)
            ∙ ap (λ n. take (number - 1) job ++ n ∷ []) (sym is)
            ∙ ap (λ nodes. nodes ++ to ∷ []) (sym (below_base p most job (place_at (number - 1) (length to) next) to refl));
      }

  -- a node that was taken, and whose children are left aside
  module _ (before : Place) (from : List ℕ) (left base next after : ℕ) (to : List ℕ) (all : after ≡ length p.leads) (taken : IsTaken p most job before from (place_at left base next) to) where
    tried : stack_of p most job (place_at left base after) to ≡ left_below p most job (place_at left base after) to
    tried = stack_tried p most job (place_at left base after) to all

    pub pushed : (nodes : List (List ℕ)) → stack_of p most job before from ++ reverse nodes ≡ stack_of p most job (place_at left base after) to ++ reverse (nodes ++ to ∷ [])
    pushed nodes =
        ap (λ stack. stack ++ reverse nodes) taken.last
        ∙ append_assoc (left_below p most job (place_at left base next) to) (to ∷ []) (reverse nodes)
        ∙ ap₂ ◌++◌ (sym tried) (sym (reverse-append nodes (to ∷ [])))

    pub fewer : length (stack_of p most job (place_at left base after) to) < length (stack_of p most job before from)
    fewer = omega (arith, ap length taken.last, ap length tried, length_push (left_below p most job (place_at left base next) to) to)
