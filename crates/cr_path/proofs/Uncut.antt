-- The steps by which the children of a node are not cut.
use Rattle.std.proofs.Common.{◌≡◌, ◌≢◌, ℕ, ◌+◌, ◌<◌, ◌≤◌, true, false, not, List, length, Option, Some, None, IfNone, IfSome, sym, ap, ◌∙◌, subst, inl, inr, arith}
use Rattle.std.proofs.lemmas.Bool.{cases_eq, cases_lt, not-true, not-false, false≢true}
use Rattle.cr_model.specs.Problems.{ProblemParts}
use Rattle.cr_model.specs.Dead.{is_turned_back}
use Rattle.cr_model.specs.Sizes.{most_rows, child}
use Rattle.cr_model.specs.Sound.{IsSound, sound_steps}
use Rattle.cr_path.specs.Living.{is_clean, is_cut, AreCut, IsFirst, IsFirstUncut}
use Rattle.cr_query.specs.Sets.{has_step}
use Rattle.cr_query.specs.Sets.{IsLeast}
use Rattle.cr_path.specs.Sets.{AreUncut, AreSeen}
use Rattle.cr_path.proofs.Living.{cut_below, turned_cut}

pub few_steps : (p : ProblemParts) → IsSound p → length p.leads ≤ 24
few_steps p sound = sound_steps p sound

-- of no steps nothing is seen
pub seen_none : (p : ProblemParts) (node : List ℕ) (set : ℕ) → ((step : ℕ) → has_step set step ≡ false) → AreSeen p node 0 set
seen_none p node set none = record {
  seen = λ step below straight. absurd (omega (arith, below));
  free = λ step high below. none step;
}

-- all children of a node that is not clean are cut
pub none_of_unclean : (p : ProblemParts) (node : List ℕ) (set : ℕ) → IsSound p → is_clean p node ≡ false → ((step : ℕ) → has_step set step ≡ false) → AreUncut p node 0 set
none_of_unclean p node set sound unclean none = record {
  before = λ step below few. absurd (omega (arith, below));
  each = λ step low inside. none step ∙ sym (ap not (cut_below p node step most_rows sound inside unclean));
  beyond = λ step high few. none step;
}

-- where all children are tried, none is left
pub none_left : (p : ProblemParts) (node : List ℕ) (set : ℕ) → ((step : ℕ) → has_step set step ≡ false) → AreUncut p node (length p.leads) set
none_left p node set none = record {
  before = λ step below few. none step;
  each = λ step high inside. absurd (omega (arith, high, inside));
  beyond = λ step high few. none step;
}

-- one step more
pub seen_more : (p : ProblemParts) (node : List ℕ) (end set more : ℕ) → AreSeen p node end set
    → (is_turned_back p (child node end) ≡ false → has_step more end ≡ not (is_cut p most_rows (child node end)))
    → ((other : ℕ) → other ≢ end → has_step more other ≡ has_step set other) → AreSeen p node (end + 1) more
seen_more p node end set more are here others = record {
  seen = λ step below. elim (cases_eq step end) [
    | inl same ↦ subst (λ (s : ℕ). is_turned_back p (child node s) ≡ false → has_step more s ≡ not (is_cut p most_rows (child node s))) (sym same) here
    | inr other ↦ λ straight. others step other ∙ are.seen step (omega (arith, below, other)) straight
  ];
  free = λ step high below. others step (λ same. absurd (omega (arith, same, high))) ∙ are.free step (omega (arith, high)) below;
}

-- all steps, without those that turn back, which are the ones below the first
pub seen_all : (p : ProblemParts) (node : List ℕ) (first end set kept : ℕ) → AreSeen p node end set → end ≡ length p.leads → first ≤ length p.leads
    → ((step : ℕ) → step < first → is_turned_back p (child node step) ≡ true)
    → ((step : ℕ) → first ≤ step → step < length p.leads → is_turned_back p (child node step) ≡ false)
    → ((step : ℕ) → step < first → has_step kept step ≡ false) → ((step : ℕ) → first ≤ step → has_step kept step ≡ has_step set step) → AreUncut p node 0 kept
seen_all p node first end set kept are all few turned straight below others = record {
  before = λ step before low. absurd (omega (arith, before));
  each = λ step low inside. elim (cases_lt step first) [
    | inl before ↦ below step before ∙ sym (ap not (turned_cut p most_rows (child node step) (turned step before)))
    | inr behind ↦ others step behind ∙ are.seen step (omega (arith, inside, all)) (straight step behind inside)
  ];
  beyond = λ step high low. others step (omega (arith, few, high)) ∙ are.free step (omega (arith, high, all)) low;
}

module _ (p : ProblemParts) (node : List ℕ) (next set : ℕ) (few : length p.leads ≤ 24) (are : AreUncut p node next set) where
  cut_before : (end : ℕ) → end ≤ length p.leads → ((s : ℕ) → s < end → has_step set s ≡ false) → AreCut p most_rows node next end
  cut_before end within none s high below =
      not-false (is_cut p most_rows (child node s)) (sym (are.each s high (omega (arith, below, within))) ∙ none s below)

  -- where the set has no step, all children are cut
  pub none_uncut : ((s : ℕ) → has_step set s ≡ false) → AreCut p most_rows node next (length p.leads)
  none_uncut none = cut_before (length p.leads) (omega arith) (λ s below. none s)

  -- its least step is the first by which the child is not cut
  module _ (step : ℕ) (least : IsLeast set step) where
    -- a step of the set is no lesser one, and none beyond the problem's
    in_front : next ≤ step
    in_front = elim (cases_lt step next) [
      | inl before ↦ absurd (false≢true (sym (are.before step before least.few) ∙ least.is))
      | inr behind ↦ behind
    ]

    within : step < length p.leads
    within = elim (cases_lt step (length p.leads)) [
      | inl inside ↦ inside
      | inr beyond ↦ absurd (false≢true (sym (are.beyond step beyond least.few) ∙ least.is))
    ]

    pub first_found : IsFirst p most_rows node next step
    first_found = record {
      from_on = in_front;
      known = within;
      uncut = not-true (is_cut p most_rows (child node step)) (sym (are.each step in_front within) ∙ least.is);
      before = cut_before step (omega (arith, within)) least.before;
    }

  -- the set without the first one
  pub left_without : (step left : ℕ) → IsFirst p most_rows node next step → has_step left step ≡ false
      → ((other : ℕ) → other < 32 → other ≢ step → has_step left other ≡ has_step set other) → AreUncut p node (step + 1) left
  left_without step left first gone others = record {
    before = λ other below low. elim (cases_eq other step) [
      | inl same ↦ subst (λ s. has_step left s ≡ false) (sym same) gone
      | inr differs ↦ others other low differs ∙ cut_off other (omega (arith, below, differs)) low
    ];
    each = λ other high inside. others other (omega (arith, inside, few)) (λ same. absurd (omega (arith, same, high))) ∙ are.each other (omega (arith, high, first.from_on)) inside;
    beyond = λ other high low. others other low (λ same. absurd (omega (arith, same, high, first.known))) ∙ are.beyond other high low;
  }
    where
      cut_off : (other : ℕ) → other < step → other < 32 → has_step set other ≡ false
      cut_off other below low = elim (cases_lt other next) [
        | inl before ↦ are.before other before low
        | inr behind ↦ are.each other behind (omega (arith, below, first.known)) ∙ ap not (first.before other behind below)
      ]

  -- the set without the steps below one
  pub left_above : (step left : ℕ) → next ≤ step → step ≤ length p.leads → ((other : ℕ) → other < step → has_step left other ≡ false)
      → ((other : ℕ) → step ≤ other → has_step left other ≡ has_step set other) → AreUncut p node step left
  left_above step left on within below others = record {
    before = λ other before low. below other before;
    each = λ other high inside. others other high ∙ are.each other (omega (arith, on, high)) inside;
    beyond = λ other high low. others other (omega (arith, within, high)) ∙ are.beyond other high low;
  }

  -- the first step by which a child is not cut, or none
  pub first_uncut_is : (found : Option ℕ) → IfNone found ((s : ℕ) → has_step set s ≡ false) → IfSome found (IsLeast set) → IsFirstUncut p most_rows node next found
  first_uncut_is None none some = none_uncut none
  first_uncut_is (Some step) none some = first_found step some
