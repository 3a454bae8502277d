-- The pair that is named where items overlap.
use Rattle.std.proofs.Common.{◌≡◌, ℕ, ◌<◌, List, length, inl, inr, sym, ap, ◌∙◌, subst, arith}
use Rattle.std.specs.Cmp.Lexicographic.{slice_cmp}
use Rattle.std.specs.Ordering.{nat_cmp, is_lt, ordering_reverse}
use Rattle.std.proofs.lemmas.Bool.{true≢false, cases_order}
use Rattle.std.proofs.lemmas.Cmp.{nat_list_cmp_total, tied_itself}
use Rattle.cr_model.specs.Touches.{IsLess}
use Rattle.cr_node.specs.Overlaps.{Item, item_at, ApartBelow, ComesFirst, IsLeastBelow, IsFirstOverlap}

-- of two words not both are less
not_both_less : (one two : List ℕ) → IsLess one two → IsLess two one → ⊥
not_both_less one two h g = true≢false (ap is_lt (sym h ∙ nat_list_cmp_total.antisymm one two ∙ ap ordering_reverse g))

not_less_itself : (one two : List ℕ) → IsLess one two → two ≡ one → ⊥
not_less_itself one two h same = true≢false (ap is_lt (sym h ∙ ap (slice_cmp nat_cmp one) same ∙ tied_itself nat_list_cmp_total one))

one_comes_first : (all : List Item) (i k : ℕ) → ComesFirst all i k → ComesFirst all k i → i ≡ k
one_comes_first all i k (inl less) (inl more) = absurd (not_both_less (item_at all i).word (item_at all k).word less more)
one_comes_first all i k (inl less) (inr same) = absurd (not_less_itself (item_at all i).word (item_at all k).word less same.0)
one_comes_first all i k (inr same) (inl more) = absurd (not_less_itself (item_at all k).word (item_at all i).word more same.0)
one_comes_first all i k (inr same) (inr back) = omega (arith, same.1, back.1)

-- one item comes first
pub one_least : (all : List Item) (item : Item) (number i k : ℕ) → IsLeastBelow all item number i → IsLeastBelow all item number k → i ≡ k
one_least all item number i k one two =
    one_comes_first all i k (one.least k two.below two.meets) (two.least i one.below one.meets)

not_earlier : (all : List Item) (i j k m : ℕ) → IsFirstOverlap all i j → IsFirstOverlap all k m → j < m → ⊥
not_earlier all i j k m one two less = true≢false (sym one.least.meets ∙ two.apart i j one.least.below less)

-- and there is one pair at most
pub one_pair : (all : List Item) (i j k m : ℕ) → IsFirstOverlap all i j → IsFirstOverlap all k m → (i ≡ k) × (j ≡ m)
one_pair all i j k m one two = elim (cases_order j m) [
  | inl same ↦ (one_least all (item_at all m) m i k (subst (λ (n : ℕ). IsLeastBelow all (item_at all n) n i) same one.least) two.least, same)
  | inr (inl less) ↦ absurd (not_earlier all i j k m one two less)
  | inr (inr more) ↦ absurd (not_earlier all k m i j two one more)
]

-- and none where no two items overlap
pub no_pair : (all : List Item) (i j : ℕ) → ApartBelow all (length all) → IsFirstOverlap all i j → ⊥
no_pair all i j apart first = true≢false (sym first.least.meets ∙ apart i j first.least.below first.inside)
