-- What a query asks of a touch, item by item.
use Rattle.std.proofs.Common.{◌≡◌, ℕ, ◌≤◌, pos, ◌≤ℤ◌, List, [], ◌∷◌, ◌++◌, length, map, All, Option, Some, None, refl, subst, take_at, drop_at}
use Rattle.std.proofs.lemmas.List.Elements.{All-nil, All-cons, All-head, All-tail, All-append, All-map, All-take, All-drop}
use Rattle.cr_model.specs.declared.query.Com.{Com}
use Rattle.cr_model.specs.Problems.{ProblemParts}
use Rattle.cr_model.specs.Callings.{length_of}
use Rattle.cr_model.specs.Queries.{cap, IsWithin, changes_of_method, MeetsCom, Meets}
use Rattle.cr_model.specs.OneTurn.{touch_of}
use Rattle.cr_ahead.specs.Items.{Item, count_item, method_item, pattern_item, com_item, com_items, items_of}

-- what holds of all of two lists holds of each of them
module _ {X : Type 0} (P : X → Type 0) (xs ys : List X) (all : All P (xs ++ ys)) where
  all_front : All P xs
  all_front = subst (All P) (take_at xs ys (length xs) refl) (All-take P (length xs) (xs ++ ys) all)

  all_back : All P ys
  all_back = subst (All P) (drop_at xs ys (length xs) refl) (All-drop P (length xs) (xs ++ ys) all)

-- and of mapped elements
all_unmapped : {X Y : Type 0} (P : Y → Type 0) (f : X → Y) (xs : List X) → All P (map f xs) → All (λ x. P (f x)) xs
all_unmapped P f [] all = All-nil (λ x. P (f x))
all_unmapped P f (x ∷ xs) all =
    All-cons (λ y. P (f y)) x xs (All-head P (f x) (map f xs) all) (all_unmapped P f xs (All-tail P (f x) (map f xs) all))

-- a touch has what an item asks
abbrev pub Within : List ℕ → Item → Type 0
Within calling item = IsWithin item.min item.max (item.number_of calling)

module _ (p : ProblemParts) (calling : List ℕ) where
  pub com_within : (limits : Option Com) → MeetsCom limits (changes_of_method p calling) → All (Within calling) (com_items p limits)
  com_within None meets = All-nil (Within calling)
  com_within (Some limits) meets =
      All-cons (Within calling) (com_item p limits) [] meets (All-nil (Within calling))

  com_meets : (limits : Option Com) → All (Within calling) (com_items p limits) → MeetsCom limits (changes_of_method p calling)
  com_meets None all = tt
  com_meets (Some limits) all = All-head (Within calling) (com_item p limits) [] all

  pub items_within : Meets p calling → All (Within calling) (items_of p)
  items_within meets =
      All-append (Within calling) (map (count_item p) p.query.counts) _ (All-map (Within calling) (count_item p) p.query.counts meets.counts)
      (All-append (Within calling) (map (method_item p) p.query.method_counts) _ (All-map (Within calling) (method_item p) p.query.method_counts meets.method_counts)
      (All-append (Within calling) (map (pattern_item p) p.query.patterns) (com_items p p.query.com) (All-map (Within calling) (pattern_item p) p.query.patterns meets.patterns)
      (com_within p.query.com meets.com)))

  pub items_meet : p.query.min ≤ℤ pos (length_of p calling) → length_of p calling ≤ cap p → (word : List ℕ) × (calling ≡ touch_of p word)
      → All (Within calling) (items_of p) → Meets p calling
  items_meet long short parts all =
      let marks : List Item = map (count_item p) p.query.counts in
      let letters : List Item = map (method_item p) p.query.method_counts in
      let rows : List Item = map (pattern_item p) p.query.patterns in
      let limits : List Item = com_items p p.query.com in
      let after_marks : All (Within calling) (letters ++ (rows ++ limits)) = all_back (Within calling) marks (letters ++ (rows ++ limits)) all in
      let after_letters : All (Within calling) (rows ++ limits) = all_back (Within calling) letters (rows ++ limits) after_marks in
      record {
        long = long;
        short = short;
        parts = parts;
        counts = all_unmapped (Within calling) (count_item p) p.query.counts (all_front (Within calling) marks (letters ++ (rows ++ limits)) all);
        method_counts = all_unmapped (Within calling) (method_item p) p.query.method_counts (all_front (Within calling) letters (rows ++ limits) after_marks);
        patterns = all_unmapped (Within calling) (pattern_item p) p.query.patterns (all_front (Within calling) rows limits after_letters);
        «com» = com_meets p.query.com (all_back (Within calling) rows limits after_letters);
      }
