-- The first verdict that holds of a node, put together from what holds of it and what does not.
use Rattle.std.proofs.Common.{◌≡◌, ℕ, Bool, true, false, List, nat_lt, refl, sym, ◌∙◌}
use Rattle.std.proofs.lemmas.Bool.{true≢false, false≢true, and_from, and_right}
use Rattle.cr_model.specs.Problems.{ProblemParts}
use Rattle.cr_model.specs.Dead.{is_long}
use Rattle.cr_audit.specs.declared.verdict.Item.{Item}
use Rattle.cr_audit.specs.declared.verdict.Item.TheVariants as item
use Rattle.cr_audit.specs.declared.verdict.Verdict.{Verdict}
use Rattle.cr_audit.specs.declared.verdict.Verdict.TheVariants as verdict
use Rattle.cr_audit.specs.Verdicts.{is_valid, is_again_at, is_round_at, has_too_many, has_too_few, turns_back_at, holds_verdict}
use Rattle.cr_log.specs.FirstVerdicts.{comes_first, comes_before, IsFirstVerdict}

-- items of one side stand in the order of items
many_in_order : (other of : Item) → comes_before (verdict.Many other) (verdict.Many of) ≡ comes_first other of
many_in_order (item.Count i) (item.Count j) = refl
many_in_order (item.Count i) (item.Leads j) = refl
many_in_order (item.Count i) (item.Rows j) = refl
many_in_order (item.Count i) item.Com = refl
many_in_order (item.Leads i) (item.Count j) = refl
many_in_order (item.Leads i) (item.Leads j) = refl
many_in_order (item.Leads i) (item.Rows j) = refl
many_in_order (item.Leads i) item.Com = refl
many_in_order (item.Rows i) (item.Count j) = refl
many_in_order (item.Rows i) (item.Leads j) = refl
many_in_order (item.Rows i) (item.Rows j) = refl
many_in_order (item.Rows i) item.Com = refl
many_in_order item.Com (item.Count j) = refl
many_in_order item.Com (item.Leads j) = refl
many_in_order item.Com (item.Rows j) = refl
many_in_order item.Com item.Com = refl

few_in_order : (other of : Item) → comes_before (verdict.Few other) (verdict.Few of) ≡ comes_first other of
few_in_order (item.Count i) (item.Count j) = refl
few_in_order (item.Count i) (item.Leads j) = refl
few_in_order (item.Count i) (item.Rows j) = refl
few_in_order (item.Count i) item.Com = refl
few_in_order (item.Leads i) (item.Count j) = refl
few_in_order (item.Leads i) (item.Leads j) = refl
few_in_order (item.Leads i) (item.Rows j) = refl
few_in_order (item.Leads i) item.Com = refl
few_in_order (item.Rows i) (item.Count j) = refl
few_in_order (item.Rows i) (item.Leads j) = refl
few_in_order (item.Rows i) (item.Rows j) = refl
few_in_order (item.Rows i) item.Com = refl
few_in_order item.Com (item.Count j) = refl
few_in_order item.Com (item.Leads j) = refl
few_in_order item.Com (item.Rows j) = refl
few_in_order item.Com item.Com = refl

-- too few is looked at after too many
few_after_many : (other of : Item) → comes_before (verdict.Few other) (verdict.Many of) ≡ false
few_after_many (item.Count i) (item.Count j) = refl
few_after_many (item.Count i) (item.Leads j) = refl
few_after_many (item.Count i) (item.Rows j) = refl
few_after_many (item.Count i) item.Com = refl
few_after_many (item.Leads i) (item.Count j) = refl
few_after_many (item.Leads i) (item.Leads j) = refl
few_after_many (item.Leads i) (item.Rows j) = refl
few_after_many (item.Leads i) item.Com = refl
few_after_many (item.Rows i) (item.Count j) = refl
few_after_many (item.Rows i) (item.Leads j) = refl
few_after_many (item.Rows i) (item.Rows j) = refl
few_after_many (item.Rows i) item.Com = refl
few_after_many item.Com (item.Count j) = refl
few_after_many item.Com (item.Leads j) = refl
few_after_many item.Com (item.Rows j) = refl
few_after_many item.Com item.Com = refl

back_after_many : (k : ℕ) (of : Item) → comes_before (verdict.Back k) (verdict.Many of) ≡ false
back_after_many k (item.Count j) = refl
back_after_many k (item.Leads j) = refl
back_after_many k (item.Rows j) = refl
back_after_many k item.Com = refl

open_after_many : (of : Item) → comes_before verdict.Open (verdict.Many of) ≡ false
open_after_many (item.Count j) = refl
open_after_many (item.Leads j) = refl
open_after_many (item.Rows j) = refl
open_after_many item.Com = refl

back_after_few : (k : ℕ) (of : Item) → comes_before (verdict.Back k) (verdict.Few of) ≡ false
back_after_few k (item.Count j) = refl
back_after_few k (item.Leads j) = refl
back_after_few k (item.Rows j) = refl
back_after_few k item.Com = refl

open_after_few : (of : Item) → comes_before verdict.Open (verdict.Few of) ≡ false
open_after_few (item.Count j) = refl
open_after_few (item.Leads j) = refl
open_after_few (item.Rows j) = refl
open_after_few item.Com = refl

many_after_long : (of : Item) → comes_before (verdict.Many of) verdict.Long ≡ false
many_after_long (item.Count n) = refl
many_after_long (item.Leads n) = refl
many_after_long (item.Rows n) = refl
many_after_long item.Com = refl

many_after_again : (of : Item) (i j : ℕ) → comes_before (verdict.Many of) (verdict.Again i j) ≡ false
many_after_again (item.Count n) i j = refl
many_after_again (item.Leads n) i j = refl
many_after_again (item.Rows n) i j = refl
many_after_again item.Com i j = refl

many_after_home : (of : Item) (i : ℕ) → comes_before (verdict.Many of) (verdict.Home i) ≡ false
many_after_home (item.Count n) i = refl
many_after_home (item.Leads n) i = refl
many_after_home (item.Rows n) i = refl
many_after_home item.Com i = refl

few_after_long : (of : Item) → comes_before (verdict.Few of) verdict.Long ≡ false
few_after_long (item.Count n) = refl
few_after_long (item.Leads n) = refl
few_after_long (item.Rows n) = refl
few_after_long item.Com = refl

few_after_again : (of : Item) (i j : ℕ) → comes_before (verdict.Few of) (verdict.Again i j) ≡ false
few_after_again (item.Count n) i j = refl
few_after_again (item.Leads n) i j = refl
few_after_again (item.Rows n) i j = refl
few_after_again item.Com i j = refl

few_after_home : (of : Item) (i : ℕ) → comes_before (verdict.Few of) (verdict.Home i) ≡ false
few_after_home (item.Count n) i = refl
few_after_home (item.Leads n) i = refl
few_after_home (item.Rows n) i = refl
few_after_home item.Com i = refl

-- what stands later in the order does not come before
later : {X : Type 0} {b : Bool} → b ≡ false → b ≡ true → X
later e h = absurd (true≢false (sym h ∙ e))

module _ (p : ProblemParts) (node : List ℕ) where
  pub first_long : is_long p node ≡ true → IsFirstVerdict p node verdict.Long
  first_long long = record { holds = long; none = none }
    where
      none : (other : Verdict) → comes_before other verdict.Long ≡ true → holds_verdict p node other ≡ false
      none verdict.Long h = absurd (false≢true h)
      none (verdict.Again i j) h = absurd (false≢true h)
      none (verdict.Home i) h = absurd (false≢true h)
      none (verdict.Many of) h = later (many_after_long of) h
      none (verdict.Few of) h = later (few_after_long of) h
      none (verdict.Back k) h = absurd (false≢true h)
      none verdict.Open h = absurd (false≢true h)

  module _ (short : is_long p node ≡ false) where
    pub first_again : (i j : ℕ) → is_again_at p node i j ≡ true → ((k l : ℕ) → nat_lt l j ≡ true → is_again_at p node k l ≡ false)
        → IsFirstVerdict p node (verdict.Again i j)
    first_again i j again least = record { holds = again; none = none }
      where
        none : (other : Verdict) → comes_before other (verdict.Again i j) ≡ true → holds_verdict p node other ≡ false
        none verdict.Long h = short
        none (verdict.Again k l) h = least k l h
        none (verdict.Home k) h = absurd (false≢true h)
        none (verdict.Many of) h = later (many_after_again of i j) h
        none (verdict.Few of) h = later (few_after_again of i j) h
        none (verdict.Back k) h = absurd (false≢true h)
        none verdict.Open h = absurd (false≢true h)

    module _ (differ : (i j : ℕ) → is_again_at p node i j ≡ false) where
      pub first_home : (i : ℕ) → is_round_at p node i ≡ true → ((k : ℕ) → nat_lt k i ≡ true → is_round_at p node k ≡ false)
          → IsFirstVerdict p node (verdict.Home i)
      first_home i home least = record { holds = home; none = none }
        where
          none : (other : Verdict) → comes_before other (verdict.Home i) ≡ true → holds_verdict p node other ≡ false
          none verdict.Long h = short
          none (verdict.Again k l) h = differ k l
          none (verdict.Home k) h = least k h
          none (verdict.Many of) h = later (many_after_home of i) h
          none (verdict.Few of) h = later (few_after_home of i) h
          none (verdict.Back k) h = absurd (false≢true h)
          none verdict.Open h = absurd (false≢true h)

      module _ (away : (i : ℕ) → is_round_at p node i ≡ false) (valid : is_valid p node ≡ true) where
        pub first_many : (of : Item) → has_too_many p node of ≡ true → ((other : Item) → comes_first other of ≡ true → has_too_many p node other ≡ false)
            → IsFirstVerdict p node (verdict.Many of)
        first_many of many least = record { holds = and_from (is_valid p node) (has_too_many p node of) valid many; none = none }
          where
            none : (other : Verdict) → comes_before other (verdict.Many of) ≡ true → holds_verdict p node other ≡ false
            none verdict.Long h = short
            none (verdict.Again k l) h = differ k l
            none (verdict.Home k) h = away k
            none (verdict.Many other) h = and_right (is_valid p node) (has_too_many p node other) (least other (sym (many_in_order other of) ∙ h))
            none (verdict.Few other) h = later (few_after_many other of) h
            none (verdict.Back k) h = later (back_after_many k of) h
            none verdict.Open h = later (open_after_many of) h

        module _ (no_more : (of : Item) → has_too_many p node of ≡ false) where
          pub first_few : (of : Item) → has_too_few p node of ≡ true → ((other : Item) → comes_first other of ≡ true → has_too_few p node other ≡ false)
              → IsFirstVerdict p node (verdict.Few of)
          first_few of few least = record { holds = and_from (is_valid p node) (has_too_few p node of) valid few; none = none }
            where
              none : (other : Verdict) → comes_before other (verdict.Few of) ≡ true → holds_verdict p node other ≡ false
              none verdict.Long h = short
              none (verdict.Again k l) h = differ k l
              none (verdict.Home k) h = away k
              none (verdict.Many other) h = and_right (is_valid p node) (has_too_many p node other) (no_more other)
              none (verdict.Few other) h = and_right (is_valid p node) (has_too_few p node other) (least other (sym (few_in_order other of) ∙ h))
              none (verdict.Back k) h = later (back_after_few k of) h
              none verdict.Open h = later (open_after_few of) h

          module _ (no_fewer : (of : Item) → has_too_few p node of ≡ false) where
            pub first_back : (k : ℕ) → turns_back_at p node k ≡ true → ((j : ℕ) → nat_lt j k ≡ true → turns_back_at p node j ≡ false)
                → IsFirstVerdict p node (verdict.Back k)
            first_back k back least = record { holds = back; none = none }
              where
                none : (other : Verdict) → comes_before other (verdict.Back k) ≡ true → holds_verdict p node other ≡ false
                none verdict.Long h = short
                none (verdict.Again i j) h = differ i j
                none (verdict.Home i) h = away i
                none (verdict.Many other) h = and_right (is_valid p node) (has_too_many p node other) (no_more other)
                none (verdict.Few other) h = and_right (is_valid p node) (has_too_few p node other) (no_fewer other)
                none (verdict.Back j) h = least j h
                none verdict.Open h = absurd (false≢true h)

            pub first_open : ((k : ℕ) → turns_back_at p node k ≡ false) → IsFirstVerdict p node verdict.Open
            first_open onward = record { holds = valid; none = none }
              where
                none : (other : Verdict) → comes_before other verdict.Open ≡ true → holds_verdict p node other ≡ false
                none verdict.Long h = short
                none (verdict.Again i j) h = differ i j
                none (verdict.Home i) h = away i
                none (verdict.Many other) h = and_right (is_valid p node) (has_too_many p node other) (no_more other)
                none (verdict.Few other) h = and_right (is_valid p node) (has_too_few p node other) (no_fewer other)
                none (verdict.Back j) h = onward j
                none verdict.Open h = absurd (false≢true h)
