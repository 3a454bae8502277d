-- Items in order: where any two meet, some one clashes with the next.
use Rattle.std.proofs.Common.{◌≡◌, ℕ, ◌+◌, ◌<◌, ◌≤◌, ◌↔◌, ◌⊎◌, Bool, true, false, not, ◌&&◌, ◌||◌, nat_eq, List, [], ◌∷◌, length, get_or, inl, inr, refl, sym, ap, ap₂, ◌∙◌, arith}
use Rattle.std.specs.Cmp.{IsTotalOrder, bool_cmp_total}
use Rattle.std.specs.Cmp.Lexicographic.{slice_cmp, pointwise}
use Rattle.std.specs.List.{starts_with}
use Rattle.std.specs.List.Sorted.{IsPermutation, IsSortedBy}
use Rattle.std.specs.Ordering.{nat_cmp, bool_cmp, ordering_then, is_lt}
use Rattle.std.specs.declared.cmp.Ordering.{Ordering}
use Rattle.std.specs.declared.cmp.Ordering.TheVariants.{Less, Equal, Greater}
use Rattle.std.proofs.lemmas.Bool.{true≢false, and_parts, and_from, or_cases, or_parts, or_left, or_right, false_from_ne_true}
use Rattle.std.proofs.lemmas.Cmp.{nat_list_cmp_total, on_total, then_total, tied_itself}
use Rattle.std.proofs.lemmas.List.{get_or_default, get_or-map, length-map}
use Rattle.std.proofs.lemmas.List.Sorted.{sorted_far, ranks_by, IsPermutation-map, IsPermutation-sym}
use Rattle.std.proofs.lemmas.Map.Keys.{IsDistinct-from_apart, IsDistinct-IsPermutation, apart_from_distinct}
use Rattle.std.proofs.lemmas.Slice.Eq.{bytes_eq-Decides}
use Rattle.cr_model.specs.Nodes.{is_prefix}
use Rattle.cr_node.specs.Overlaps.{Item, of_node, item_at}
use Rattle.cr_model.proofs.Prefixes.{begins_itself}
use Rattle.cr_node.proofs.Order.{prefix_test, between, same_word}
use Rattle.cr_node.proofs.Sorted.{item_cmp}
use Rattle.cr_shard.specs.declared.words.Word.{Word}
use Rattle.cr_shard.specs.Reads.{clashes, meet, item_of, items_of, NoneMeet, NoneClashNext}

-- std's test for a beginning
pub prefix_of_steps : (node steps : List ℕ) → starts_with nat_eq steps node ≡ is_prefix node steps
prefix_of_steps = prefix_test

-- words that are the same
pub same_words : (word other : List ℕ) → pointwise nat_eq word other ≡ true → word ≡ other
same_words word other h = (bytes_eq-Decides word other).0 h

pub words_same : (word other : List ℕ) → word ≡ other → pointwise nat_eq word other ≡ true
words_same word other is = (bytes_eq-Decides word other).1 is

item_cmp_total : IsTotalOrder item_cmp
item_cmp_total = then_total (on_total (λ (item : Item). item.word) nat_list_cmp_total) (on_total (λ (item : Item). item.found) bool_cmp_total)

-- an item that is not less has a word that is not less
first_of : (one two : Ordering) → is_lt (ordering_then one two) ≡ false → is_lt one ≡ false
first_of Less two h = h
first_of Equal two h = refl
first_of Greater two h = refl

second_of : (one two : Ordering) → is_lt (ordering_then one two) ≡ false → one ≡ Equal → is_lt two ≡ false
second_of one two h tie = ap (λ o. is_lt (ordering_then o two)) (sym tie) ∙ h

-- after a node stands no found touch that is not greater
node_too : (first second : Bool) → not first ≡ true → is_lt (bool_cmp first second) ≡ false → not second ≡ true
node_too false false node h = refl
node_too false true node h = absurd (true≢false h)
node_too true second node h = absurd (true≢false (sym node))

-- after a found touch stands one, at one word
found_too : (first second : Bool) → second ≡ true → is_lt (bool_cmp first second) ≡ false → first ≡ true
found_too true second found h = refl
found_too false true found h = absurd (true≢false h)
found_too false false found h = absurd (true≢false (sym found))

-- a node that begins another and is not less is begun by it
begun_back : (item other : Item) → not item.found ≡ true → is_prefix item.word other.word ≡ true → is_lt (item_cmp item other) ≡ false → clashes other item ≡ true
begun_back item other node begins order =
    let words = slice_cmp nat_cmp item.word other.word in
    let same = same_word item.word other.word begins (first_of words (bool_cmp item.found other.found) order) in
    let tie : words ≡ Equal = ap (slice_cmp nat_cmp item.word) (sym same) ∙ tied_itself nat_list_cmp_total item.word in
    or_left (not other.found && is_prefix other.word item.word) (other.found && (item.found && pointwise nat_eq other.word item.word))
    (and_from (not other.found) (is_prefix other.word item.word)
    (node_too item.found other.found node (second_of words (bool_cmp item.found other.found) order tie))
    (ap (is_prefix other.word) same ∙ begins_itself other.word))

-- found touches with one word clash both ways
found_clash : (item other : Item) → item.found ≡ true → other.found ≡ true → item.word ≡ other.word → clashes item other ≡ true
found_clash item other one two same =
    or_right (not item.found && is_prefix item.word other.word) (item.found && (other.found && pointwise nat_eq item.word other.word))
    (and_from item.found (other.found && pointwise nat_eq item.word other.word) one
    (and_from other.found (pointwise nat_eq item.word other.word) two (words_same item.word other.word same)))

node_clash : (item other : Item) → not item.found ≡ true → is_prefix item.word other.word ≡ true → clashes item other ≡ true
node_clash item other node begins =
    or_left (not item.found && is_prefix item.word other.word) (item.found && (other.found && pointwise nat_eq item.word other.word))
    (and_from (not item.found) (is_prefix item.word other.word) node begins)

-- what two items are that clash
record AreFound (item other : Item) : Type 0 where
  first : item.found ≡ true
  second : other.found ≡ true
  same : item.word ≡ other.word

clash_cases : (item other : Item) → clashes item other ≡ true
    → ((not item.found ≡ true) × (is_prefix item.word other.word ≡ true)) ⊎ AreFound item other
clash_cases item other h = elim (or_cases (not item.found && is_prefix item.word other.word) (item.found && (other.found && pointwise nat_eq item.word other.word)) h) [
  | inl one ↦ inl (and_parts (not item.found) (is_prefix item.word other.word) one)
  | inr two ↦
      let outer = and_parts item.found (other.found && pointwise nat_eq item.word other.word) two in
      let inner = and_parts other.found (pointwise nat_eq item.word other.word) outer.1 in
      inr (record { first = outer.0; second = inner.0; same = same_words item.word other.word inner.1 })
]

-- what clashes with an item that is not greater is met by it
clash_back : (item other : Item) → clashes item other ≡ true → is_lt (item_cmp item other) ≡ false → clashes other item ≡ true
clash_back item other h order = elim (clash_cases item other h) [
  | inl node ↦ begun_back item other node.0 node.1 order
  | inr found ↦ found_clash other item found.second found.first (sym found.same)
]

or_turned : (one two : Bool) → (one || two) ≡ (two || one)
or_turned true true = refl
or_turned true false = refl
or_turned false true = refl
or_turned false false = refl

pub meet_both_ways : (item other : Item) → meet item other ≡ meet other item
meet_both_ways item other = or_turned (clashes item other) (clashes other item)

module _ (all : List Item) (sorted : IsSortedBy (λ item other. is_lt (item_cmp item other)) all) where
  rises : (i j : ℕ) → i ≤ j → j < length all → is_lt (item_cmp (item_at all j) (item_at all i)) ≡ false
  rises i j above inside = sorted_far (λ item other. is_lt (item_cmp item other)) (ranks_by item_cmp_total (λ (item : Item). item)) all sorted i j (of_node []) above inside

  words_rise : (i j : ℕ) → i ≤ j → j < length all → is_lt (slice_cmp nat_cmp (item_at all j).word (item_at all i).word) ≡ false
  words_rise i j above inside =
      first_of (slice_cmp nat_cmp (item_at all j).word (item_at all i).word) (bool_cmp (item_at all j).found (item_at all i).found) (rises i j above inside)

  -- a found touch with the word of a later one has the word of the next, which was found too
  found_next : (i j : ℕ) → i < j → j < length all → AreFound (item_at all i) (item_at all j) → clashes (item_at all i) (item_at all (i + 1)) ≡ true
  found_next i j less inside found =
      let low = item_at all i in
      let next = item_at all (i + 1) in
      let high = item_at all j in
      let above = words_rise i (i + 1) (omega arith) (omega arith) in
      let below : is_lt (slice_cmp nat_cmp high.word next.word) ≡ false = words_rise (i + 1) j (omega arith) inside in
      let begins = between low.word next.word high.word (ap (is_prefix low.word) (sym found.same) ∙ begins_itself low.word) above below in
      let same = same_word low.word next.word begins (ap (λ w. is_lt (slice_cmp nat_cmp w next.word)) found.same ∙ below) in
      let tie : slice_cmp nat_cmp next.word low.word ≡ Equal = ap (slice_cmp nat_cmp next.word) same ∙ tied_itself nat_list_cmp_total next.word in
      let order = second_of (slice_cmp nat_cmp next.word low.word) (bool_cmp next.found low.found) (rises i (i + 1) (omega arith) (omega arith)) tie in
      found_clash low next found.first (found_too next.found low.found found.first order) same

  node_next : (i j : ℕ) → i < j → j < length all → not (item_at all i).found ≡ true → is_prefix (item_at all i).word (item_at all j).word ≡ true
      → clashes (item_at all i) (item_at all (i + 1)) ≡ true
  node_next i j less inside node begins =
      node_clash (item_at all i) (item_at all (i + 1)) node
      (between (item_at all i).word (item_at all (i + 1)).word (item_at all j).word begins (words_rise i (i + 1) (omega arith) (omega arith)) (words_rise (i + 1) j (omega arith) inside))

  clash_next : (i j : ℕ) → i < j → j < length all → clashes (item_at all i) (item_at all j) ≡ true → clashes (item_at all i) (item_at all (i + 1)) ≡ true
  clash_next i j less inside h = elim (clash_cases (item_at all i) (item_at all j) h) [
    | inl node ↦ node_next i j less inside node.0 node.1
    | inr found ↦ found_next i j less inside found
  ]

  meet_clash : (i j : ℕ) → i < j → j < length all → meet (item_at all i) (item_at all j) ≡ true → clashes (item_at all i) (item_at all j) ≡ true
  meet_clash i j less inside h = elim (or_cases (clashes (item_at all i) (item_at all j)) (clashes (item_at all j) (item_at all i)) h) [
    | inl one ↦ one
    | inr back ↦ clash_back (item_at all j) (item_at all i) back (rises i j (omega arith) inside)
  ]

  pub none_meet_in_order : NoneClashNext all ↔ NoneMeet all
  none_meet_in_order = (
    λ none. IsDistinct-from_apart meet all (λ i j d less inside.
        let within : i < length all = omega arith in
        ap₂ meet (get_or_default all i d (of_node []) within) (get_or_default all j d (of_node []) inside)
        ∙ false_from_ne_true (meet (item_at all i) (item_at all j)) (λ h.
        true≢false (sym (clash_next i j less inside (meet_clash i j less inside h)) ∙ none i (omega arith)))),
    λ apart k inside.
        (or_parts (clashes (item_at all k) (item_at all (k + 1))) (clashes (item_at all (k + 1)) (item_at all k))
        (apart_from_distinct meet all k (k + 1) (of_node []) apart (omega arith) inside)).0,
  )

-- in another order
pub none_meet_moved : (all moved : List Item) → IsPermutation all moved → NoneMeet all → NoneMeet moved
none_meet_moved all moved same apart = IsDistinct-IsPermutation meet meet_both_ways all moved same apart

-- a sorted list of words is one of items
items_sorted : (words : List Word) → IsSortedBy (λ word other. is_lt (item_cmp (item_of word) (item_of other))) words
    → IsSortedBy (λ item other. is_lt (item_cmp item other)) (items_of words)
items_sorted [] sorted = λ k d low high. absurd (omega arith)
items_sorted (word ∷ words) sorted = λ k d low high.
    let inside : k + 1 < length (word ∷ words) = omega (arith, length-map (word ∷ words) item_of) in
    let next = get_or-map item_of (word ∷ words) (k + 1) word d inside in
    let this = get_or-map item_of (word ∷ words) k word d (omega arith) in
    ap₂ (λ item other. is_lt (item_cmp item other)) next this ∙ sorted k word low inside

-- no two words meet exactly where, in order, none clashes with the next
pub sorted_words : (words sorted : List Word) → IsPermutation words sorted
    → IsSortedBy (λ word other. is_lt (item_cmp (item_of word) (item_of other))) sorted
    → NoneClashNext (items_of sorted) ↔ NoneMeet (items_of words)
sorted_words words sorted moved order =
    let same : IsPermutation (items_of words) (items_of sorted) = IsPermutation-map item_of words sorted moved in
    let none = none_meet_in_order (items_of sorted) (items_sorted sorted order) in (
      λ h. none_meet_moved (items_of sorted) (items_of words) (IsPermutation-sym (items_of words) (items_of sorted) same) (none.0 h),
      λ h. none.1 (none_meet_moved (items_of words) (items_of sorted) same h),
    )

-- the item of a word that is read
pub item_read : (words : List Word) (k : ℕ) (word : Word) → k < length words → item_at (items_of words) k ≡ item_of (get_or words k word)
item_read words k word inside = get_or-map item_of words k word (of_node []) inside
