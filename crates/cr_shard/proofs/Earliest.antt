-- The first two shards that overlap, by fronts of the shards whose items meet.
use Rattle.std.proofs.Common.{◌≡◌, ℕ, suc, zero, ◌+◌, ◌<◌, ◌≤◌, false, List, [], ◌∷◌, ◌++◌, length, get_or, take, drop, inl, inr, refl, sym, ap, ap₂, ◌∙◌, subst, arith, length-append}
use Rattle.std.proofs.lemmas.Bool.{true≢false, cases_lt, true_from_ne_false, false_from_ne_true}
use Rattle.std.proofs.lemmas.List.{drop_more, get_or-take, get_or_append_left, get_or_default, length-take-le}
use Rattle.std.proofs.lemmas.List.Elements.{All-take, All-append}
use Rattle.std.proofs.Math.Seq.{get_or-append_seam}
use Rattle.cr_model.specs.Problems.{ProblemParts}
use Rattle.cr_model.specs.Checkpoints.{CanGoOn}
use Rattle.cr_store.specs.Progress.{Progress}
use Rattle.cr_shard.specs.Joins.{shards_overlap}
use Rattle.cr_shard.specs.JoinFaults.{IsOverlap}
use Rattle.cr_shard.specs.Reads.{all_items, NoneMeet, CanMeet, FrontMeets, FrontMeetsOne}
use Rattle.cr_shard.proofs.Overlapping.{none_overlap, none_meet}
use Rattle.cr_shard.proofs.Spreading.{distinct_none}

-- a shard by itself
one_taken : (shards : List Progress) (k : ℕ) (d : Progress) → k < length shards → take 1 (drop k shards) ≡ get_or shards k d ∷ []
one_taken shards k d inside = ap (take 1) (drop_more shards k d inside)

pub nothing_meets : (p : ProblemParts) (shards : List Progress) → NoneMeet (all_items p (take 0 shards))
nothing_meets p shards = distinct_none _

-- the first shards and the next are the first of one more
pub one_more : (shards : List Progress) (k : ℕ) → k < length shards → take k shards ++ take 1 (drop k shards) ≡ take (k + 1) shards
one_more [] k inside = absurd (omega (arith, inside))
one_more (c ∷ shards) zero inside = refl
one_more (c ∷ shards) (suc k) inside =
    let next : suc (k + 1) ≡ suc k + 1 = omega arith in
    ap (λ l. c ∷ l) (one_more shards k (omega (arith, inside))) ∙ ap (λ n. take n (c ∷ shards)) next

-- some shards are there where two items of them meet
pub some_meet : (p : ProblemParts) (shards : List Progress) → FrontMeets p shards (length shards) → 0 < length shards
some_meet p [] meets = absurd (meets (nothing_meets p []))
some_meet p (c ∷ shards) meets = omega arith

module _ (p : ProblemParts) (shards : List Progress) (can : CanMeet p shards) where
  can_front : (k : ℕ) → CanMeet p (take k shards)
  can_front k = All-take (λ c. CanGoOn p c.found c.jobs) k shards can

  module _ (later : ℕ) (inside : later < length shards) where
    -- some first shards and the later one
    abbrev chosen : ℕ → List Progress
    chosen number = take number shards ++ take 1 (drop later shards)

    chosen_are : (number : ℕ) (d : Progress) → chosen number ≡ take number shards ++ get_or shards later d ∷ []
    chosen_are number d = ap (λ l. take number shards ++ l) (one_taken shards later d inside)

    long : (number : ℕ) → number ≤ later → length (take number shards) ≡ number
    long number few = length-take-le number shards (omega arith)

    chosen_front : (number k : ℕ) (d : Progress) → number ≤ later → k < number → get_or (chosen number) k d ≡ get_or shards k d
    chosen_front number k d few below =
        let within : k < length (take number shards) = omega (arith, long number few, below) in
        ap (λ l. get_or l k d) (chosen_are number d)
        ∙ get_or_append_left (take number shards) (get_or shards later d ∷ []) d k within
        ∙ get_or-take number shards k d below

    chosen_last : (number : ℕ) (d : Progress) → number ≤ later → get_or (chosen number) number d ≡ get_or shards later d
    chosen_last number d few =
        ap (λ l. get_or l number d) (chosen_are number d)
        ∙ ap (λ n. get_or (take number shards ++ get_or shards later d ∷ []) n d) (sym (long number few))
        ∙ get_or-append_seam (take number shards) (get_or shards later d) [] d

    chosen_many : (number : ℕ) (d : Progress) → number ≤ later → length (chosen number) ≡ number + 1
    chosen_many number d few = ap length (chosen_are number d) ∙ length-append (take number shards) (get_or shards later d ∷ []) ∙ ap (λ n. n + 1) (long number few)

    can_chosen : (number : ℕ) → CanMeet p (chosen number)
    can_chosen number = All-append (λ c. CanGoOn p c.found c.jobs) (take number shards) (take 1 (drop later shards)) (can_front number)
        (λ k d within. subst (λ c. CanGoOn p c.found c.jobs) (sym (alone k d within)) (can later d inside))
      where
        alone : (k : ℕ) (d : Progress) → k < length (take 1 (drop later shards)) → get_or (take 1 (drop later shards)) k d ≡ get_or shards later d
        alone k d within =
            let few : length (take 1 (drop later shards)) ≡ 1 = ap length (one_taken shards later d inside) in
            let first : k ≡ 0 = omega (arith, within, few) in
            ap (λ n. get_or (take 1 (drop later shards)) n d) first ∙ ap (λ l. get_or l 0 d) (one_taken shards later d inside)

    -- the later shard does not overlap the first ones, where these don't overlap one another
    pub chosen_apart : (number : ℕ) → number ≤ later → NoneMeet (all_items p (take later shards))
        → ((k : ℕ) (d : Progress) → k < number → shards_overlap p (get_or shards k d) (get_or shards later d) ≡ false)
        → NoneMeet (all_items p (chosen number))
    chosen_apart number few apart none = none_meet p (chosen number) (can_chosen number) (λ i j d less within.
        let many = chosen_many number d few in
        let before : i < number = omega (arith, many, within, less) in
        ap (λ c. shards_overlap p c (get_or (chosen number) j d)) (chosen_front number i d few before) ∙ elim (cases_lt j number) [
          | inl low ↦
              let under : j < length (take later shards) = omega (arith, low, few, long later (omega arith)) in
              let first : i < later = omega arith in
              let second : j < later = omega arith in
              ap (shards_overlap p (get_or shards i d)) (chosen_front number j d few low)
              ∙ ap₂ (shards_overlap p) (sym (get_or-take later shards i d first)) (sym (get_or-take later shards j d second))
              ∙ none_overlap p (take later shards) apart i j d less under
          | inr high ↦
              let last : j ≡ number = omega (arith, many, within, high) in
              ap (shards_overlap p (get_or shards i d)) (ap (λ n. get_or (chosen number) n d) last ∙ chosen_last number d few) ∙ none i d before
        ])

    -- and the other way
    pub apart_chosen : (number : ℕ) → number ≤ later → NoneMeet (all_items p (chosen number))
        → (k : ℕ) (d : Progress) → k < number → shards_overlap p (get_or shards k d) (get_or shards later d) ≡ false
    apart_chosen number few apart k d below =
        let many = chosen_many number d few in
        let within : number < length (chosen number) = omega (arith, many) in
        ap₂ (shards_overlap p) (sym (chosen_front number k d few below)) (sym (chosen_last number d few))
        ∙ none_overlap p (chosen number) apart k number d below within

  -- the first two that overlap
  pub overlap_found : (i j : ℕ) → j < length shards → NoneMeet (all_items p (take j shards)) → i < j
      → (FrontMeetsOne p shards j i → ⊥) → FrontMeetsOne p shards j (i + 1) → IsOverlap p shards i j
  overlap_found i j inside apart below none meets =
      let least : (k : ℕ) (d : Progress) → k < i → shards_overlap p (get_or shards k d) (get_or shards j d) ≡ false = λ k d less.
      false_from_ne_true (shards_overlap p (get_or shards k d) (get_or shards j d)) (λ h.
      none (λ all. true≢false (sym h ∙ apart_chosen j inside i (omega arith) all k d less))) in
      record {
        order = below;
        inside = inside;
        overlap = λ d. true_from_ne_false (shards_overlap p (get_or shards i d) (get_or shards j d)) (λ h.
            meets (chosen_apart j inside (i + 1) (omega arith) apart (λ k e less.
            elim (cases_lt k i) [
              | inl low ↦ least k e low
              | inr high ↦
                  let last : k ≡ i = omega arith in
                  ap₂ (shards_overlap p) (ap (λ n. get_or shards n e) last ∙ get_or_default shards i e d (omega arith)) (get_or_default shards j e d inside) ∙ h
            ])));
        apart = λ k m d less under.
            let within : m < length (take j shards) = omega (arith, under, length-take-le j shards (omega arith)) in
            ap₂ (shards_overlap p) (sym (get_or-take j shards k d (omega arith))) (sym (get_or-take j shards m d under))
            ∙ none_overlap p (take j shards) apart k m d less within;
        least = least;
      }
