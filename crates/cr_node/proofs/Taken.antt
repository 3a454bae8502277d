-- The first words, sorted.
use Rattle.std.proofs.Common.{◌≡◌, ℕ, ◌+◌, ◌<◌, ◌≤◌, ◌↔◌, List, [], ◌∷◌, length, take, sym, ap, ap₂, ◌∙◌, subst, arith}
use Rattle.std.specs.List.Sorted.{IsPermutation, IsSortedBy}
use Rattle.std.specs.Ordering.{is_lt}
use Rattle.std.proofs.lemmas.List.{get_or-map, get_or-take, length-map, take-map, length-take-le}
use Rattle.std.proofs.lemmas.List.Sorted.{IsPermutation-map, IsPermutation-sym}
use Rattle.cr_node.specs.declared.words.Word.{Word}
use Rattle.cr_node.specs.Overlaps.{Item, of_node, overlaps, ApartBelow, NoneBeginsNext, item_of, items_of}
use Rattle.cr_node.proofs.Sorted.{item_cmp, apart_where_none_begins, apart_moved}

-- a sorted list of words is one of items
items_sorted : (words : List Word) → IsSortedBy (λ word other. is_lt (item_cmp (item_of word) (item_of other))) words
    → IsSortedBy (λ item other. is_lt (item_cmp item other)) (items_of words)
items_sorted [] sorted = λ k d low high. absurd (omega arith)
items_sorted (word ∷ words) sorted = λ k d low high.
    let inside : k + 1 < length (word ∷ words) = omega (arith, length-map (word ∷ words) item_of) in
    let next = get_or-map item_of (word ∷ words) (k + 1) word d inside in
    let this = get_or-map item_of (word ∷ words) k word d (omega arith) in
    ap₂ (λ item other. is_lt (item_cmp item other)) next this ∙ sorted k word low inside

-- the first of some items
taken_apart : (all : List Item) (number : ℕ) → number ≤ length all → length (take number all) ≡ number
    → ApartBelow (take number all) (length (take number all)) ↔ ApartBelow all number
taken_apart all number within long = (
  λ apart i j less below.
      ap₂ overlaps (sym (get_or-take number all i (of_node []) (omega arith))) (sym (get_or-take number all j (of_node []) below))
      ∙ apart i j less (omega arith),
  λ apart i j less below.
      let inside : j < number = omega arith in
      ap₂ overlaps (get_or-take number all i (of_node []) (omega arith)) (get_or-take number all j (of_node []) inside) ∙ apart i j less inside,
)

-- no two of some words overlap exactly where, in order, none begins the next
pub sorted_apart : (words sorted : List Word) → IsPermutation words sorted
    → IsSortedBy (λ word other. is_lt (item_cmp (item_of word) (item_of other))) sorted
    → NoneBeginsNext (items_of sorted) ↔ ApartBelow (items_of words) (length (items_of words))
sorted_apart words sorted moved order =
    let same : IsPermutation (items_of words) (items_of sorted) = IsPermutation-map item_of words sorted moved in
    let none = apart_where_none_begins (items_of sorted) (items_sorted sorted order) in (
      λ h. apart_moved (items_of sorted) (items_of words) (IsPermutation-sym (items_of words) (items_of sorted) same) (none.0 h),
      λ h. none.1 (apart_moved (items_of words) (items_of sorted) same h),
    )

-- no two of the first words overlap
pub first_apart : (words front : List Word) (number : ℕ) → number ≤ length words → front ≡ take number words
    → ApartBelow (items_of front) (length (items_of front)) ↔ ApartBelow (items_of words) number
first_apart words front number within is =
    let inside : number ≤ length (items_of words) = omega (arith, length-map words item_of) in
    let taken = taken_apart (items_of words) number inside (length-take-le number (items_of words) inside) in
    let same : items_of front ≡ take number (items_of words) = ap items_of is ∙ sym (take-map item_of number words) in (
      λ h. taken.0 (subst (λ (items : List Item). ApartBelow items (length items)) same h),
      λ h. subst (λ (items : List Item). ApartBelow items (length items)) (sym same) (taken.1 h),
    )
