-- The size of a node, by those of its children.
use Rattle.std.proofs.Common.{◌≡◌, ℕ, zero, suc, ◌+◌, ◌<◌, ◌≤◌, true, cond, List, [], ◌∷◌, length, get_or, find, sum_by, All, Some, None, is_none, inl, inr, refl, sym, ap, ◌∙◌, arith, lt-ltb, length-append}
use Rattle.std.specs.List.{range_with_len}
use Rattle.std.proofs.lemmas.Bool.{cases_lt, false≢true}
use Rattle.std.proofs.lemmas.List.Elements.{All-head, All-tail, All-cons, All-filter, All-map, All-from_get_or, All-append, filter_passes}
use Rattle.std.proofs.lemmas.List.FromFn.{get_or-range_with_len, length-range_with_len}
use Rattle.std.proofs.lemmas.List.Sums.{sum_by-cons}
use Rattle.cr_model.specs.declared.reason.Reason.TheVariants as reason
use Rattle.cr_model.specs.Problems.{ProblemParts}
use Rattle.cr_model.specs.Callings.{changes_of, length_of}
use Rattle.cr_model.specs.Queries.{part_cap}
use Rattle.cr_model.specs.Nodes.{IsValid}
use Rattle.cr_model.specs.Sound.{IsSound}
use Rattle.cr_model.specs.Dead.{remaining_of, is_long, holds, dead}
use Rattle.cr_model.specs.Sizes.{child, children, live_children, size_within, size}
use Rattle.cr_model.proofs.BookExists.{lead_some}
use Rattle.cr_model.proofs.Ringing.{lengths_on}

-- a child is longer
pub child_longer : (p : ProblemParts) (node : List ℕ) (step : ℕ) → IsSound p → step < length p.leads → length_of p node < length_of p (child node step)
child_longer p node step sound inside = omega (arith, lengths_on p node (step ∷ []), length-append (changes_of p step) [], lead_some p sound step inside)

-- a node that is too long is dead
long_dies : (p : ProblemParts) (most : ℕ) (node : List ℕ) → is_long p node ≡ true → dead p most node ≡ Some reason.Long
unfolding dead
long_dies p most node h = ap (λ b. cond b (Some reason.Long) (find (holds p most node) (reason.SelfFalse ∷ reason.Again ∷ reason.Home ∷ reason.Far ∷ reason.TooMany ∷ reason.TooFew ∷ reason.TurnsBack ∷ []))) h

-- so one that is not dead is short
pub live_short : (p : ProblemParts) (most : ℕ) (node : List ℕ) → is_none (dead p most node) ≡ true → length_of p node ≤ part_cap p
live_short p most node h = elim (cases_lt (part_cap p) (length_of p node)) [
  | inl long ↦ absurd (false≢true (sym (ap is_none (long_dies p most node (lt-ltb (part_cap p) (length_of p node) long))) ∙ h))
  | inr short ↦ short
]

-- longer than a node, and no longer than a part may be
abbrev IsLonger : ProblemParts → List ℕ → List ℕ → Type 0
IsLonger p node next = (length_of p node < length_of p next) × (length_of p next ≤ part_cap p)

-- what passes a test and holds of all
both_hold : {X : Type 0} (P Q : X → Type 0) (xs : List X) → All P xs → All Q xs → All (λ x. P x × Q x) xs
both_hold P Q xs one two k d inside = (one k d inside, two k d inside)

-- each live child is
live_longer : (p : ProblemParts) (most : ℕ) (node : List ℕ) → IsSound p → All (IsLonger p node) (live_children p most node)
live_longer p most node sound k d inside =
    let longer : All (λ next. length_of p node < length_of p next) (children p node) = All-map (λ next. length_of p node < length_of p next) (child node) (range_with_len 0 (length p.leads))
    (All-from_get_or (λ step. length_of p node < length_of p (child node step)) (range_with_len 0 (length p.leads)) 0 (λ i within.
    let at : get_or (range_with_len 0 (length p.leads)) i 0 ≡ 0 + i = get_or-range_with_len 0 (length p.leads) i 0 (omega (arith, length-range_with_len 0 (length p.leads))) in
    child_longer p node (get_or (range_with_len 0 (length p.leads)) i 0) sound (omega (arith, length-range_with_len 0 (length p.leads))))) in (
      All-filter (λ next. is_none (dead p most next)) (λ next. length_of p node < length_of p next) (children p node) longer k d inside,
      live_short p most (get_or (live_children p most node) k d) (filter_passes (λ next. is_none (dead p most next)) (children p node) k d inside),
    )

-- sums of what agrees at each element
sum_agrees : (f g : List ℕ → ℕ) (xs : List (List ℕ)) → All (λ x. f x ≡ g x) xs → sum_by f xs ≡ sum_by g xs
sum_agrees f g [] each = refl
sum_agrees f g (x ∷ xs) each =
    sum_by-cons f x xs ∙ ap (λ k. k + sum_by f xs) (All-head (λ y. f y ≡ g y) x xs each)
    ∙ ap (λ k. g x + k) (sum_agrees f g xs (All-tail (λ y. f y ≡ g y) x xs each)) ∙ sym (sum_by-cons g x xs)

-- a list of elements that there can't be is empty
none_there : {X : Type 0} (P : X → Type 0) (xs : List X) → All P xs → ((x : X) → P x → ⊥) → xs ≡ []
none_there P [] all never = refl
none_there P (x ∷ xs) all never = absurd (never x (All-head P x xs all))

module _ (p : ProblemParts) (most : ℕ) (sound : IsSound p) where
  -- where nothing is left, no child is live
  no_live : (node : List ℕ) → remaining_of p node ≡ 0 → live_children p most node ≡ []
  no_live node none = none_there (IsLonger p node) (live_children p most node) (live_longer p most node sound) (λ next h. absurd (omega arith))

  -- as much as is left, or more, is enough
  enough : (n m : ℕ) (node : List ℕ) → remaining_of p node ≤ n → remaining_of p node ≤ m → size_within p most n node ≡ size_within p most m node
  unfolding size_within
  enough zero zero node one two = refl
  enough zero (suc m) node one two = sym (ap (λ nodes. 1 + sum_by (size_within p most m) nodes) (no_live node (omega arith)))
  enough (suc n) zero node one two = ap (λ nodes. 1 + sum_by (size_within p most n) nodes) (no_live node (omega arith))
  enough (suc n) (suc m) node one two =
      ap (λ k. 1 + k) (sum_agrees (size_within p most n) (size_within p most m) (live_children p most node) (λ k d inside.
      let next : List ℕ = get_or (live_children p most node) k d in
      let longer : IsLonger p node next = live_longer p most node sound k d inside in
      enough n m next (omega arith) (omega arith)))

  -- with a child's share of what is left
  size_at : (changes : ℕ) (node : List ℕ) → remaining_of p node ≡ changes → size_within p most changes node ≡ 1 + sum_by (size p most) (live_children p most node)
  unfolding size_within
  size_at zero node left = sym (ap (λ nodes. 1 + sum_by (size p most) nodes) (no_live node left))
  size_at (suc changes) node left =
      ap (λ k. 1 + k) (sum_agrees (size_within p most changes) (size p most) (live_children p most node) (λ k d inside.
      let next : List ℕ = get_or (live_children p most node) k d in
      let longer : IsLonger p node next = live_longer p most node sound k d inside in
      enough changes (remaining_of p next) next (omega arith) (omega arith)))

  -- the size, by the children's
  pub size_by_children : (node : List ℕ) → size p most node ≡ 1 + sum_by (size p most) (live_children p most node)
  size_by_children node = size_at (remaining_of p node) node refl

  -- a live child of a valid node is valid
  pub child_valid : (node : List ℕ) (step : ℕ) → IsValid p node → step < length p.leads → dead p most (child node step) ≡ None → IsValid p (child node step)
  child_valid node step valid inside live = record {
    steps = All-append (λ s. s < length p.leads) node (step ∷ []) valid.steps (All-cons (λ s. s < length p.leads) step [] inside (λ k d within. absurd (omega arith)));
    short = live_short p most (child node step) (ap is_none live);
  }
