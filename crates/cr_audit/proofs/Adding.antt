-- A touch more.
use Rattle.std.proofs.Common.{◌≡◌, ◌⊎◌, ◌↔◌, ℕ, List, [], ◌∷◌, map, All, Contains, inl, inr, refl, sym, ap₂, ◌∙◌}
use Rattle.std.specs.Cmp.Lexicographic.{slice_cmp}
use Rattle.std.specs.BTreeSet.{insert_key}
use Rattle.std.specs.List.{AllByRecursion}
use Rattle.std.specs.List.Sorted.{IsStrictlySortedBy}
use Rattle.std.specs.Ordering.{nat_cmp, ordering_then, match_ordering}
use Rattle.std.specs.declared.cmp.Ordering.{Ordering}
use Rattle.std.specs.declared.cmp.Ordering.TheVariants.{Less, Equal, Greater}
use Rattle.std.proofs.lemmas.List.Elements.{All-cons, All-head, All-tail, Contains-append_right, Contains-append_cases}
use Rattle.cr_model.specs.Problems.{ProblemParts}
use Rattle.cr_model.specs.Books.{book_order}
use Rattle.cr_model.proofs.Rotations.{same_when_equal}
use Rattle.cr_audit.specs.declared.touches.Touch.{Touch}
use Rattle.cr_audit.specs.Touched.{IsMeasured, AreTouches, callings}
use Rattle.cr_audit.proofs.Proving.{none_held, one_held, first_held}

-- by length, and at one length by the steps
abbrev pub touch_order : Touch → Touch → Ordering
touch_order a b = ordering_then (nat_cmp a.length b.length) (slice_cmp nat_cmp a.steps.items b.steps.items)

module _ {K : Type 0} (cmp : K → K → Ordering) where
  -- what holds of all, and of one more
  pub all_inserted : (P : K → Type 0) (keys : List K) (k : K) → All P keys → P k → All P (insert_key cmp keys k)
  all_inserted P [] k all one = All-cons P k [] one all
  all_inserted P (y ∷ keys) k all one = by (cmp k y) (all_inserted P keys k (All-tail P y keys all) one)
    where
      by : (o : Ordering) → All P (insert_key cmp keys k) → All P (match_ordering o (k ∷ y ∷ keys) (y ∷ keys) (y ∷ insert_key cmp keys k))
      by Less later = All-cons P k (y ∷ keys) one all
      by Equal later = all
      by Greater later = All-cons P y (insert_key cmp keys k) (All-head P y keys all) later

  module _ (f : K → List ℕ) (tie : (a b : K) → cmp a b ≡ Equal → f a ≡ f b) where
    cases : (y x : List ℕ) (ys : List (List ℕ)) → Contains (y ∷ ys) x → (y ≡ x) ⊎ Contains ys x
    cases y x ys held = elim (Contains-append_cases (y ∷ []) ys x held) [ inl here ↦ inl (one_held y x here) | inr there ↦ inr there ]

    pub inserted : (keys : List K) (k : K) (x : List ℕ) → Contains (map f (insert_key cmp keys k)) x ↔ (Contains (map f keys) x ⊎ (x ≡ f k))
    inserted [] k x = (
      λ held. inr (sym (one_held (f k) x held)),
      λ either. elim either [ inl held ↦ absurd (none_held x held) | inr here ↦ first_held (f k) x [] (sym here) ],
    )
    inserted (y ∷ keys) k x = by (inserted keys k x) (cmp k y) refl
      where
        by : (Contains (map f (insert_key cmp keys k)) x ↔ (Contains (map f keys) x ⊎ (x ≡ f k)))
            → (o : Ordering) → cmp k y ≡ o → Contains (map f (match_ordering o (k ∷ y ∷ keys) (y ∷ keys) (y ∷ insert_key cmp keys k))) x ↔ (Contains (f y ∷ map f keys) x ⊎ (x ≡ f k))
        by later Less is = (
          λ held. elim (cases (f k) x (f y ∷ map f keys) held) [ inl here ↦ inr (sym here) | inr there ↦ inl there ],
          λ either. elim either [
            | inl there ↦ Contains-append_right (f k ∷ []) (f y ∷ map f keys) x there
            | inr here ↦ first_held (f k) x (f y ∷ map f keys) (sym here)
          ],
        )
        by later Equal is = (
          λ held. inl held,
          λ either. elim either [
            | inl there ↦ there
            | inr here ↦ first_held (f y) x (map f keys) (sym (tie k y is) ∙ sym here)
          ],
        )
        by later Greater is = (
          λ held. elim (cases (f y) x (map f (insert_key cmp keys k)) held) [
            | inl here ↦ inl (first_held (f y) x (map f keys) here)
            | inr there ↦ elim (later.0 there) [
              | inl before ↦ inl (Contains-append_right (f y ∷ []) (map f keys) x before)
              | inr here ↦ inr here
            ]
          ],
          λ either. elim either [
            | inl there ↦ elim (cases (f y) x (map f keys) there) [
              | inl here ↦ first_held (f y) x (map f (insert_key cmp keys k)) here
              | inr before ↦ Contains-append_right (f y ∷ []) (map f (insert_key cmp keys k)) x (later.1 (inl before))
            ]
            | inr here ↦ Contains-append_right (f y ∷ []) (map f (insert_key cmp keys k)) x (later.1 (inr here))
          ],
        )

-- touches that tie have one calling
then_equal : (o rest : Ordering) → ordering_then o rest ≡ Equal → rest ≡ Equal
then_equal Less rest h = absurd (cc)
then_equal Equal rest h = h
then_equal Greater rest h = absurd (cc)

pub tied : (a b : Touch) → touch_order a b ≡ Equal → a.steps.items ≡ b.steps.items
tied a b h = same_when_equal a.steps.items b.steps.items (then_equal (nat_cmp a.length b.length) (slice_cmp nat_cmp a.steps.items b.steps.items) h)

-- touches in order are callings in the book's order
module _ (p : ProblemParts) where
  ordered : (a b : Touch) → IsMeasured p a → IsMeasured p b → touch_order a b ≡ book_order p a.steps.items b.steps.items
  ordered a b one other = ap₂ (λ m n. ordering_then (nat_cmp m n) (slice_cmp nat_cmp a.steps.items b.steps.items)) one.long other.long

  below : (a : Touch) (touches : List Touch) → IsMeasured p a → AreTouches p touches → AllByRecursion (λ b. touch_order a b ≡ Less) touches
      → AllByRecursion (λ calling. book_order p a.steps.items calling ≡ Less) (callings touches)
  below a [] one all less = tt
  below a (b ∷ touches) one all less =
      (sym (ordered a b one (All-head (IsMeasured p) b touches all)) ∙ less.0, below a touches one (All-tail (IsMeasured p) b touches all) less.1)

  pub ascending : (touches : List Touch) → AreTouches p touches → IsStrictlySortedBy touch_order touches → IsStrictlySortedBy (book_order p) (callings touches)
  unfolding IsStrictlySortedBy
  ascending [] all sorted = tt
  ascending (a ∷ touches) all sorted =
      (below a touches (All-head (IsMeasured p) a touches all) (All-tail (IsMeasured p) a touches all) sorted.0, ascending touches (All-tail (IsMeasured p) a touches all) sorted.1)
