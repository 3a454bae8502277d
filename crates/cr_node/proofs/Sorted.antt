-- Items in order: where any begins another, some begins the one after it.
use Rattle.std.proofs.Common.{◌≡◌, ℕ, ◌+◌, ◌<◌, ◌≤◌, ◌↔◌, Bool, true, false, not, ◌||◌, List, [], length, inl, inr, refl, sym, ap, ap₂, ◌∙◌, arith}
use Rattle.std.specs.Cmp.{IsTotalOrder, bool_cmp_total}
use Rattle.std.specs.Cmp.Lexicographic.{slice_cmp}
use Rattle.std.specs.List.{IsDistinct}
use Rattle.std.specs.List.Sorted.{IsPermutation, IsSortedBy}
use Rattle.std.specs.Ordering.{nat_cmp, bool_cmp, ordering_then, is_lt, on, then_cmp}
use Rattle.std.specs.declared.cmp.Ordering.{Ordering}
use Rattle.std.specs.declared.cmp.Ordering.TheVariants.{Less, Equal, Greater}
use Rattle.std.proofs.lemmas.Bool.{true≢false, and_parts, and_from, or_cases, or_parts, false_from_ne_true}
use Rattle.std.proofs.lemmas.Cmp.{nat_list_cmp_total, on_total, then_total, tied_itself}
use Rattle.std.proofs.lemmas.List.{get_or_default}
use Rattle.std.proofs.lemmas.List.Sorted.{sorted_far, ranks_by}
use Rattle.std.proofs.lemmas.Map.Keys.{IsDistinct-from_apart, IsDistinct-IsPermutation, apart_from_distinct}
use Rattle.cr_model.specs.Nodes.{is_prefix}
use Rattle.cr_node.specs.Overlaps.{Item, of_node, item_at, begins, overlaps, ApartBelow, NoneBeginsNext}
use Rattle.cr_model.proofs.Prefixes.{begins_itself}
use Rattle.cr_node.proofs.Order.{between, same_word}

-- by word, and of equal words nodes first
abbrev pub item_cmp : Item → Item → Ordering
item_cmp = then_cmp (on (λ item. item.word) (slice_cmp nat_cmp)) (on (λ item. item.found) bool_cmp)

item_cmp_total : IsTotalOrder item_cmp
item_cmp_total = then_total (on_total (λ (item : Item). item.word) nat_list_cmp_total) (on_total (λ (item : Item). item.found) bool_cmp_total)

-- an item that is not less has a word that is not less
first_of : (one two : Ordering) → is_lt (ordering_then one two) ≡ false → is_lt one ≡ false
first_of Less two h = h
first_of Equal two h = refl
first_of Greater two h = refl

second_of : (one two : Ordering) → is_lt (ordering_then one two) ≡ false → one ≡ Equal → is_lt two ≡ false
second_of one two h tie = ap (λ o. is_lt (ordering_then o two)) (sym tie) ∙ h

-- after a node stands no found touch that is not greater
node_too : (first second : Bool) → not first ≡ true → is_lt (bool_cmp first second) ≡ false → not second ≡ true
node_too false false node h = refl
node_too false true node h = absurd (true≢false h)
node_too true second node h = absurd (true≢false (sym node))

-- what begins another and is not less is begun by it
begun_back : (item other : Item) → begins item other ≡ true → is_lt (item_cmp item other) ≡ false → begins other item ≡ true
begun_back item other h order =
    let both = and_parts (not item.found) (is_prefix item.word other.word) h in
    let words = slice_cmp nat_cmp item.word other.word in
    let same = same_word item.word other.word both.1 (first_of words (bool_cmp item.found other.found) order) in
    let tie : words ≡ Equal = ap (slice_cmp nat_cmp item.word) (sym same) ∙ tied_itself nat_list_cmp_total item.word in
    and_from (not other.found) (is_prefix other.word item.word)
    (node_too item.found other.found both.0 (second_of words (bool_cmp item.found other.found) order tie))
    (ap (is_prefix other.word) same ∙ begins_itself other.word)

or_turned : (one two : Bool) → (one || two) ≡ (two || one)
or_turned true true = refl
or_turned true false = refl
or_turned false true = refl
or_turned false false = refl

pub overlaps_both_ways : (item other : Item) → overlaps item other ≡ overlaps other item
overlaps_both_ways item other = or_turned (begins item other) (begins other item)

module _ (all : List Item) (sorted : IsSortedBy (λ item other. is_lt (item_cmp item other)) all) where
  rises : (i j : ℕ) → i ≤ j → j < length all → is_lt (item_cmp (item_at all j) (item_at all i)) ≡ false
  rises i j above inside = sorted_far (λ item other. is_lt (item_cmp item other)) (ranks_by item_cmp_total (λ (item : Item). item)) all sorted i j (of_node []) above inside

  words_rise : (i j : ℕ) → i ≤ j → j < length all → is_lt (slice_cmp nat_cmp (item_at all j).word (item_at all i).word) ≡ false
  words_rise i j above inside =
      first_of (slice_cmp nat_cmp (item_at all j).word (item_at all i).word) (bool_cmp (item_at all j).found (item_at all i).found) (rises i j above inside)

  -- what overlaps a later item begins the next one
  begins_next : (i j : ℕ) → i < j → j < length all → begins (item_at all i) (item_at all j) ≡ true → begins (item_at all i) (item_at all (i + 1)) ≡ true
  begins_next i j less inside h =
      let both = and_parts (not (item_at all i).found) (is_prefix (item_at all i).word (item_at all j).word) h in
      and_from (not (item_at all i).found) (is_prefix (item_at all i).word (item_at all (i + 1)).word) both.0
      (between (item_at all i).word (item_at all (i + 1)).word (item_at all j).word both.1 (words_rise i (i + 1) (omega arith) (omega arith)) (words_rise (i + 1) j (omega arith) inside))

  overlap_begins : (i j : ℕ) → i < j → j < length all → overlaps (item_at all i) (item_at all j) ≡ true → begins (item_at all i) (item_at all j) ≡ true
  overlap_begins i j less inside h = elim (or_cases (begins (item_at all i) (item_at all j)) (begins (item_at all j) (item_at all i)) h) [
    | inl one ↦ one
    | inr back ↦ begun_back (item_at all j) (item_at all i) back (rises i j (omega arith) inside)
  ]

  pub apart_where_none_begins : NoneBeginsNext all ↔ ApartBelow all (length all)
  apart_where_none_begins = (
    λ none i j less inside. false_from_ne_true (overlaps (item_at all i) (item_at all j)) (λ h.
        true≢false (sym (begins_next i j less inside (overlap_begins i j less inside h)) ∙ none i (omega arith))),
    λ apart k inside. (or_parts (begins (item_at all k) (item_at all (k + 1))) (begins (item_at all (k + 1)) (item_at all k)) (apart k (k + 1) (omega arith) inside)).0,
  )

-- items that do not overlap, in std's word
distinct : (all : List Item) → ApartBelow all (length all) → IsDistinct overlaps all
distinct all apart = IsDistinct-from_apart overlaps all (λ i j d less inside.
    ap₂ overlaps (get_or_default all i d (of_node []) (omega arith)) (get_or_default all j d (of_node []) inside) ∙ apart i j less inside)

apart_of : (all : List Item) → IsDistinct overlaps all → ApartBelow all (length all)
apart_of all h i j less inside = apart_from_distinct overlaps all i j (of_node []) h less inside

-- in another order
pub apart_moved : (all moved : List Item) → IsPermutation all moved → ApartBelow all (length all) → ApartBelow moved (length moved)
apart_moved all moved same apart = apart_of moved (IsDistinct-IsPermutation overlaps overlaps_both_ways all moved same (distinct all apart))
