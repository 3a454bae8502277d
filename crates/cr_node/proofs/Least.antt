-- The first item that overlaps another, looked for from the front.
use Rattle.std.proofs.Common.{◌≡◌, ℕ, ◌+◌, ◌<◌, ◌≤◌, true, false, List, [], length, get_or, Option, Some, None, inl, inr, refl, sym, ap, ◌∙◌, subst, arith}
use Rattle.std.specs.Cmp.Lexicographic.{slice_cmp}
use Rattle.std.specs.Ordering.{nat_cmp, is_eq, ordering_reverse}
use Rattle.std.specs.declared.cmp.Ordering.{Ordering}
use Rattle.std.specs.declared.cmp.Ordering.TheVariants.{Less, Equal, Greater}
use Rattle.std.proofs.lemmas.Bool.{true≢false, cases_lt}
use Rattle.std.proofs.lemmas.Cmp.{nat_list_cmp_total}
use Rattle.std.proofs.lemmas.List.{get_or-map}
use Rattle.std.proofs.lemmas.Map.Text.{is_eq-slice_cmp}
use Rattle.std.proofs.lemmas.Slice.Eq.{bytes_eq-Decides}
use Rattle.cr_model.specs.Touches.{IsLess}
use Rattle.cr_node.specs.declared.words.Word.{Word}
use Rattle.cr_node.specs.Overlaps.{Item, of_node, item_at, overlaps, ApartBelow, ComesFirst, IsLeastBelow, TellsLeast, item_of, items_of}

-- the item of a word that is read
pub item_read : (words : List Word) (k : ℕ) (word : Word) → k < length words → item_at (items_of words) k ≡ item_of (get_or words k word)
item_read words k word inside = get_or-map item_of words k word (of_node []) inside

-- where the first of two words is not less, the second comes first
not_less_follows : (all : List Item) (i k : ℕ) → i ≤ k → (IsLess (item_at all k).word (item_at all i).word → ⊥) → ComesFirst all i k
not_less_follows all i k order not_less = by (slice_cmp nat_cmp (item_at all i).word (item_at all k).word) refl
  where
    by : (answer : Ordering) → slice_cmp nat_cmp (item_at all i).word (item_at all k).word ≡ answer → ComesFirst all i k
    by Less is = inl is
    by Equal is = inr ((bytes_eq-Decides (item_at all i).word (item_at all k).word).0 (sym (is_eq-slice_cmp (item_at all i).word (item_at all k).word) ∙ ap is_eq is), order)
    by Greater is = absurd (not_less (nat_list_cmp_total.antisymm (item_at all k).word (item_at all i).word ∙ ap ordering_reverse is))

less_onward : (all : List Item) (i j k : ℕ) → IsLess (item_at all i).word (item_at all j).word → ComesFirst all j k → IsLess (item_at all i).word (item_at all k).word
less_onward all i j k less (inl more) = nat_list_cmp_total.trans (item_at all i).word (item_at all j).word (item_at all k).word less more
less_onward all i j k less (inr same) = subst (λ (word : List ℕ). IsLess (item_at all i).word word) same.0 less

module _ (all : List Item) (item : Item) (number : ℕ) where
  -- an item that does not overlap changes nothing
  pub keeps : (least : Option ℕ) → TellsLeast all item number least → overlaps (item_at all number) item ≡ false → TellsLeast all item (number + 1) least
  keeps None none apart = λ k below.
      elim (cases_lt k number) [
        | inl low ↦ none k low
        | inr high ↦ let last : k ≡ number = omega arith in ap (λ j. overlaps (item_at all j) item) last ∙ apart
      ]
  keeps (Some i) first apart = record {
    below = omega (arith, first.below);
    meets = first.meets;
    least = λ k below meets.
        elim (cases_lt k number) [
          | inl low ↦ first.least k low meets
          | inr high ↦
              let last : k ≡ number = omega arith in
              absurd (true≢false (sym meets ∙ ap (λ j. overlaps (item_at all j) item) last ∙ apart))
        ];
  }

  itself : (k : ℕ) → k ≡ number → ComesFirst all number k
  itself k last = inr (ap (λ j. (item_at all j).word) (sym last), omega arith)

  -- the first that overlaps at all
  pub starts : TellsLeast all item number None → overlaps (item_at all number) item ≡ true → IsLeastBelow all item (number + 1) number
  starts none meets = record {
    below = omega arith;
    meets = meets;
    least = λ k below too.
        elim (cases_lt k number) [
          | inl low ↦ absurd (true≢false (sym too ∙ none k low))
          | inr high ↦ itself k (omega arith)
        ];
  }

  -- one with a lesser word
  pub takes : (best : ℕ) → IsLeastBelow all item number best → overlaps (item_at all number) item ≡ true
      → IsLess (item_at all number).word (item_at all best).word → IsLeastBelow all item (number + 1) number
  takes best first meets less = record {
    below = omega arith;
    meets = meets;
    least = λ k below too.
        elim (cases_lt k number) [
          | inl low ↦ inl (less_onward all number best k less (first.least k low too))
          | inr high ↦ itself k (omega arith)
        ];
  }

  -- one with no lesser word
  pub stays : (best : ℕ) → IsLeastBelow all item number best → (IsLess (item_at all number).word (item_at all best).word → ⊥)
      → IsLeastBelow all item (number + 1) best
  stays best first not_less = record {
    below = omega (arith, first.below);
    meets = first.meets;
    least = λ k below too.
        elim (cases_lt k number) [
          | inl low ↦ first.least k low too
          | inr high ↦
              let last : number ≡ k = omega arith in
              subst (λ (j : ℕ). ComesFirst all best j) last (not_less_follows all best number (omega (arith, first.below)) not_less)
        ];
  }

-- items that do not overlap, and one that overlaps none of them
pub one_more_apart : (all : List Item) (number : ℕ) → ApartBelow all number → TellsLeast all (item_at all number) number None → ApartBelow all (number + 1)
one_more_apart all number apart none i j less below = elim (cases_lt j number) [
  | inl low ↦ apart i j less low
  | inr high ↦
      let last : j ≡ number = omega arith in
      ap (λ k. overlaps (item_at all i) (item_at all k)) last ∙ none i (omega arith)
]
