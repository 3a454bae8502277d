-- The live children of a node, from a step on.
use Rattle.std.proofs.Common.{◌≡◌, ℕ, zero, suc, ◌+◌, ◌-◌, ◌<◌, ◌≤◌, Bool, true, false, cond, List, [], ◌∷◌, length, map, filter, find, Option, Some, None, is_none, refl, sym, ap, ◌∙◌, subst, arith}
use Rattle.std.specs.List.{range_with_len}
use Rattle.std.proofs.lemmas.Bool.{true≢false}
use Rattle.cr_model.specs.declared.reason.Reason.{Reason}
use Rattle.cr_model.specs.Problems.{ProblemParts}
use Rattle.cr_model.specs.Dead.{dead}
use Rattle.cr_model.specs.Sizes.{child, live_children}
use Rattle.cr_explore.specs.Stacks.{is_live, first_live, live_from}

module _ (keeps : List ℕ → Bool) (f : ℕ → List ℕ) where
  -- where no number is found, none is kept
  none_kept : (xs : List ℕ) → find (λ x. keeps (f x)) xs ≡ None → filter keeps (map f xs) ≡ []
  none_kept [] none = refl
  none_kept (x ∷ xs) none = by (keeps (f x)) none (none_kept xs)
    where
      by : (b : Bool) → cond b (Some x) (find (λ y. keeps (f y)) xs) ≡ None → (find (λ y. keeps (f y)) xs ≡ None → filter keeps (map f xs) ≡ []) → cond b (f x ∷ filter keeps (map f xs)) (filter keeps (map f xs)) ≡ []
      by true h rest = absurd (cc)
      by false h rest = rest h

-- the first number of a range that passes, and what is kept from it on
record IsFirst (keeps : List ℕ → Bool) (f : ℕ → List ℕ) (a n x : ℕ) : Type 0 where
  from : a ≤ x
  to : x < a + n
  passes : keeps (f x) ≡ true
  kept : filter keeps (map f (range_with_len a n)) ≡ f x ∷ filter keeps (map f (range_with_len (x + 1) (a + n - (x + 1))))

module _ (keeps : List ℕ → Bool) (f : ℕ → List ℕ) where
  first_kept : (a n x : ℕ) → find (λ y. keeps (f y)) (range_with_len a n) ≡ Some x → IsFirst keeps f a n x
  first_kept a zero x h = absurd (cc)
  first_kept a (suc n) x h = by (keeps (f a)) refl h (first_kept (a + 1) n x)
    where
      by : (b : Bool) → keeps (f a) ≡ b → cond b (Some a) (find (λ y. keeps (f y)) (range_with_len (a + 1) n)) ≡ Some x
          → (find (λ y. keeps (f y)) (range_with_len (a + 1) n) ≡ Some x → IsFirst keeps f (a + 1) n x) → IsFirst keeps f a (suc n) x
      by true e h rest =
          let same : a ≡ x = cc in
          let number : a + suc n - (a + 1) ≡ n = omega arith in
          subst (IsFirst keeps f a (suc n)) same (record {
            from = omega arith;
            to = omega arith;
            passes = e;
            kept =
                ap (λ b. cond b (f a ∷ filter keeps (map f (range_with_len (a + 1) n))) (filter keeps (map f (range_with_len (a + 1) n)))) e
                ∙ ap (λ k. f a ∷ filter keeps (map f (range_with_len (a + 1) k))) (sym number);
          })
      by false e h rest =
          let first = rest h in
          let number : a + 1 + n - (x + 1) ≡ a + suc n - (x + 1) = omega arith in
          record {
            from = omega (arith, first.from);
            to = omega (arith, first.to);
            passes = first.passes;
            kept =
                ap (λ b. cond b (f a ∷ filter keeps (map f (range_with_len (a + 1) n))) (filter keeps (map f (range_with_len (a + 1) n)))) e
                ∙ first.kept ∙ ap (λ k. f x ∷ filter keeps (map f (range_with_len (x + 1) k))) number;
          }

-- an option that is tested for none
is_none_true : (o : Option Reason) → is_none o ≡ true → o ≡ None
is_none_true None h = refl
is_none_true (Some why) h = absurd (true≢false (sym h))

-- the first live child of a node from a step on
pub record IsFirstLive (p : ProblemParts) (most : ℕ) (node : List ℕ) (from step : ℕ) : Type 0 where
  pub inside : step < length p.leads
  pub live : dead p most (child node step) ≡ None
  pub more : live_from p most node from ≡ child node step ∷ live_from p most node (step + 1)

module _ (p : ProblemParts) (most : ℕ) (node : List ℕ) where
  -- where there is no first one, there is none
  pub none_live : (from : ℕ) → first_live p most node from ≡ None → live_from p most node from ≡ []
  unfolding first_live live_from
  none_live from none = none_kept (is_live p most) (child node) (range_with_len from (length p.leads - from)) none

  pub first_live_is : (from step : ℕ) → from ≤ length p.leads → first_live p most node from ≡ Some step → IsFirstLive p most node from step
  unfolding first_live live_from
  first_live_is from step inside h =
      let first = first_kept (is_live p most) (child node) from (length p.leads - from) step h in
      let number : from + (length p.leads - from) - (step + 1) ≡ length p.leads - (step + 1) = omega arith in
      record {
        inside = omega (arith, first.to);
        live = is_none_true (dead p most (child node step)) first.passes;
        more = first.kept ∙ ap (λ k. child node step ∷ filter (is_live p most) (map (child node) (range_with_len (step + 1) k))) number;
      }

  -- from the first step on, all live children
  pub all_live : live_from p most node 0 ≡ live_children p most node
  unfolding live_from
  all_live = let number : length p.leads - 0 ≡ length p.leads = omega arith in ap (λ k. filter (is_live p most) (map (child node) (range_with_len 0 k))) number

  -- past the last step, none
  pub none_past : live_from p most node (length p.leads) ≡ []
  unfolding live_from
  none_past = let number : length p.leads - length p.leads ≡ 0 = omega arith in ap (λ k. filter (is_live p most) (map (child node) (range_with_len (length p.leads) k))) number

  -- one step on, past a dead child or to a live one
  pub first_dead : (step : ℕ) → step < length p.leads → is_live p most (child node step) ≡ false → first_live p most node step ≡ first_live p most node (step + 1)
  unfolding first_live
  first_dead step inside dies =
      let more : length p.leads - step ≡ suc (length p.leads - (step + 1)) = omega arith in
      ap (λ k. find (λ other. is_live p most (child node other)) (range_with_len step k)) more
      ∙ ap (λ b. cond b (Some step) (find (λ other. is_live p most (child node other)) (range_with_len (step + 1) (length p.leads - (step + 1))))) dies

  pub first_found : (step : ℕ) → step < length p.leads → is_live p most (child node step) ≡ true → first_live p most node step ≡ Some step
  unfolding first_live
  first_found step inside lives =
      let more : length p.leads - step ≡ suc (length p.leads - (step + 1)) = omega arith in
      ap (λ k. find (λ other. is_live p most (child node other)) (range_with_len step k)) more
      ∙ ap (λ b. cond b (Some step) (find (λ other. is_live p most (child node other)) (range_with_len (step + 1) (length p.leads - (step + 1))))) lives

  pub first_ended : (step : ℕ) → length p.leads ≤ step → first_live p most node step ≡ None
  unfolding first_live
  first_ended step past =
      let none : length p.leads - step ≡ 0 = omega arith in
      ap (λ k. find (λ other. is_live p most (child node other)) (range_with_len step k)) none
