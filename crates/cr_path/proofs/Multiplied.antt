-- The rows of a node, so many times over.
use Rattle.std.proofs.Common.{◌≡◌, ℕ, zero, suc, ◌+◌, ◌-◌, ◌*◌, ◌<◌, ◌≤◌, Bool, true, false, not, ◌&&◌, List, [], ◌++◌, length, get_or, map, Contains, sym, ap, ap₂, ◌∙◌, subst, inl, inr, refl, ◌||◌, arith, append-nil}
use Rattle.std.specs.List.{list_any}
use Rattle.std.proofs.lemmas.Bool.{cases_lt, false≢true, false_from_ne_true, or_parts, and_parts, not-true}
use Rattle.std.proofs.lemmas.List.{get_or-map, length-map, get_or_default}
use Rattle.std.proofs.lemmas.List.Folds.{list_any-append, list_any_none, list_any_at}
use Rattle.cr_row.specs.Rows.{rounds, product}
use Rattle.cr_model.specs.Problems.{ProblemParts}
use Rattle.cr_model.specs.Callings.{changes_of_all, rows_from, rows_of, head_of}
use Rattle.cr_model.specs.Dead.{parts_of}
use Rattle.cr_model.specs.Decided.{rows_differ}
use Rattle.cr_model.specs.Levels.{is_listed}
use Rattle.cr_model.specs.OneTurn.{touch_of}
use Rattle.cr_model.specs.Queries.{repeated}
use Rattle.cr_model.proofs.Bells.{rows_are_rows, last_is_row, undone}
use Rattle.cr_model.proofs.Deciding.{rows_differ_decided}
use Rattle.cr_model.proofs.NewRows.{listed_decided}
use Rattle.cr_model.proofs.Ringing.{rows_from-append, rows_on, head_on, changes-append, rung_from}
use Rattle.cr_model.proofs.Turned.{head_joined}
use Rattle.cr_path.proofs.Children.{row_laws}
use Rattle.cr_path.proofs.Listed.{differ_joined}
use Rattle.cr_path.proofs.Passing.{repeated_joined, repeated_on}
use Rattle.cr_path.proofs.Products.{products_differ}

-- none of some more rows stands among these
abbrev pub none_of : List (List ℕ) → List (List ℕ) → Bool
none_of rows more = not (list_any (is_listed rows) more)

-- told by a row at a place
new_at : (rows more : List (List ℕ)) → list_any (is_listed rows) more ≡ false → (k : ℕ) → k < length more → Contains rows (get_or more k []) → ⊥
new_at rows more none k inside held =
    false≢true (sym none ∙ list_any_at (is_listed rows) more k [] inside ((listed_decided rows (get_or more k [])).1 held))

all_new_at : (rows more : List (List ℕ)) → ((k : ℕ) → k < length more → Contains rows (get_or more k []) → ⊥) → list_any (is_listed rows) more ≡ false
all_new_at rows more new = list_any_none (is_listed rows) more (λ k d inside.
    false_from_ne_true (is_listed rows (get_or more k d)) (λ held. new k inside (subst (Contains rows) (get_or_same k d inside) ((listed_decided rows (get_or more k d)).0 held))))
  where
    get_or_same : (k : ℕ) (d : List ℕ) → k < length more → get_or more k d ≡ get_or more k []
    get_or_same k d inside = get_or_default more k d [] inside

module _ (p : ProblemParts) (node : List ℕ) where
  -- the rows of so many parts after the first
  abbrev pub further : ℕ → List (List ℕ)
  further number = rows_from (head_of p node) (changes_of_all p (repeated number node))

  -- the head of so many parts, and the rows of the part after them
  abbrev pub head_of_parts : ℕ → List ℕ
  head_of_parts number = head_of p (repeated number node)

  abbrev pub part_after : ℕ → List (List ℕ)
  part_after number = rows_from (head_of_parts number) (changes_of_all p node)

  -- the first part, and those after it
  parts_are : (number : ℕ) → rows_of p (repeated (number + 1) node) ≡ rows_of p node ++ further number
  parts_are number =
      let turned : 1 + number ≡ number + 1 = omega arith in
      ap (λ n. rows_of p (repeated n node)) (sym turned)
      ∙ ap (rows_of p) (repeated_joined 1 number node ∙ ap (λ front. front ++ repeated number node) (append-nil node))
      ∙ rows_on p node (repeated number node)

  -- one part more
  further_on : (number : ℕ) → further (number + 1) ≡ further number ++ part_after (number + 1)
  further_on number =
      let turned : 1 + number ≡ number + 1 = omega arith in
      ap (rows_from (head_of p node)) (ap (changes_of_all p) (repeated_on number node) ∙ changes-append p (repeated number node) node)
      ∙ rows_from-append (head_of p node) (changes_of_all p (repeated number node)) (changes_of_all p node)
      ∙ ap (λ row. further number ++ rows_from row (changes_of_all p node))
      (sym (head_on p node (repeated number node)) ∙ ap (head_of p) (ap (λ front. front ++ repeated number node) (sym (append-nil node)) ∙ sym (repeated_joined 1 number node) ∙ ap (λ n. repeated n node) turned))

  -- the parts after the first are the parts before the last, by the head
  further_is : (number : ℕ) → further number ≡ map (product (head_of p node)) (rows_of p (repeated number node))
  further_is number = rung_from row_laws.after_product row_laws.rounds_right p.stage (head_of p node) (changes_of_all p (repeated number node)) (last_is_row row_laws p.stage (changes_of_all p node)).long

  further_differs : (number : ℕ) → rows_differ (rows_of p (repeated number node)) ≡ true → rows_differ (further number) ≡ true
  further_differs number differ =
      ap rows_differ (further_is number)
      ∙ (rows_differ_decided (map (product (head_of p node)) (rows_of p (repeated number node)))).1
      (products_differ p.stage (head_of p node) (rows_of p (repeated number node)) (last_is_row row_laws p.stage (changes_of_all p node)) (rows_are_rows row_laws p.stage (changes_of_all p (repeated number node)))
      ((rows_differ_decided (rows_of p (repeated number node))).0 differ))

  -- where no row of the first part comes again, all differ, and the other way round
  all_differ : (number : ℕ) → rows_differ (rows_of p node) ≡ true → list_any (is_listed (rows_of p node)) (further number) ≡ false → rows_differ (rows_of p (repeated (number + 1) node)) ≡ true
  all_differ zero differ new = ap (λ word. rows_differ (rows_of p word)) (append-nil node) ∙ differ
  all_differ (suc number) differ new =
      let one : suc number ≡ number + 1 = omega arith in
      let parts : list_any (is_listed (rows_of p node)) (further number ++ part_after (number + 1)) ≡ false = ap (list_any (is_listed (rows_of p node))) (sym (ap further one ∙ further_on number)) ∙ new in
      let (fewer, last) = or_parts (list_any (is_listed (rows_of p node)) (further number)) (list_any (is_listed (rows_of p node)) (part_after (number + 1))) (sym (list_any-append (is_listed (rows_of p node)) (further number) (part_after (number + 1))) ∙ parts) in
      let before : rows_differ (rows_of p (repeated (suc number) node)) ≡ true = ap (λ n. rows_differ (rows_of p (repeated n node))) one ∙ all_differ number differ fewer in
      ap rows_differ (parts_are (suc number)) ∙ differ_joined (rows_of p node) (further (suc number))
      ∙ (λ i. differ i && (further_differs (suc number) before i && not (new i)))

  new_parts : (number : ℕ) → rows_differ (rows_of p (repeated (number + 1) node)) ≡ true → list_any (is_listed (rows_of p node)) (further number) ≡ false
  new_parts number differ =
      let again = list_any (is_listed (rows_of p node)) (further number) in
      let (one, rest) = and_parts (rows_differ (rows_of p node)) (rows_differ (further number) && not again) (sym (ap rows_differ (parts_are number) ∙ differ_joined (rows_of p node) (further number)) ∙ differ) in
      let (two, three) = and_parts (rows_differ (further number)) (not again) rest in
      not-true again three

  parts_told : (number : ℕ) → rows_differ (rows_of p node) ≡ true → none_of (rows_of p node) (further number) ≡ rows_differ (rows_of p (repeated (number + 1) node))
  parts_told number differ = by (list_any (is_listed (rows_of p node)) (further number)) refl (rows_differ (rows_of p (repeated (number + 1) node))) refl
    where
      by : (again : Bool) → list_any (is_listed (rows_of p node)) (further number) ≡ again → (all : Bool) → rows_differ (rows_of p (repeated (number + 1) node)) ≡ all → not again ≡ all
      by true some true all = absurd (false≢true (sym (new_parts number all) ∙ some))
      by true some false twice = refl
      by false none true all = refl
      by false none false twice = absurd (false≢true (sym twice ∙ all_differ number differ none))

  part_is : (number : ℕ) → part_after number ≡ map (product (head_of_parts number)) (rows_of p node)
  part_is number = rung_from row_laws.after_product row_laws.rounds_right p.stage (head_of_parts number) (changes_of_all p node) (last_is_row row_laws p.stage (changes_of_all p (repeated number node))).long

  -- its row at a place
  part_at : (number place : ℕ) → place < length (rows_of p node) → get_or (part_after number) place [] ≡ product (head_of_parts number) (get_or (rows_of p node) place [])
  part_at number place inside = ap (λ rows. get_or rows place []) (part_is number) ∙ get_or-map (product (head_of_parts number)) (rows_of p node) place [] [] inside

  part_long : (number : ℕ) → length (part_after number) ≡ length (rows_of p node)
  part_long number = ap length (part_is number) ∙ length-map (rows_of p node) (product (head_of_parts number))

  -- parts bring new rows where each of them does
  all_new : (number : ℕ) → ((i : ℕ) → 1 ≤ i → i ≤ number → list_any (is_listed (rows_of p node)) (part_after i) ≡ false) → list_any (is_listed (rows_of p node)) (further number) ≡ false
  all_new zero each = refl
  all_new (suc number) each =
      let one : suc number ≡ number + 1 = omega arith in
      ap (list_any (is_listed (rows_of p node))) (ap further one ∙ further_on number)
      ∙ list_any-append (is_listed (rows_of p node)) (further number) (part_after (number + 1))
      ∙ ap₂ (λ a b. a || b) (all_new number (λ i low high. each i low (omega (arith, high)))) (each (number + 1) (omega arith) (omega arith))

  each_new : (number : ℕ) → list_any (is_listed (rows_of p node)) (further number) ≡ false → (i : ℕ) → 1 ≤ i → i ≤ number → list_any (is_listed (rows_of p node)) (part_after i) ≡ false
  each_new zero new i low high = absurd (omega arith)
  each_new (suc number) new i low high =
      let one : suc number ≡ number + 1 = omega arith in
      let parts : list_any (is_listed (rows_of p node)) (further number ++ part_after (number + 1)) ≡ false = ap (list_any (is_listed (rows_of p node))) (sym (ap further one ∙ further_on number)) ∙ new in
      let (fewer, last) = or_parts (list_any (is_listed (rows_of p node)) (further number)) (list_any (is_listed (rows_of p node)) (part_after (number + 1))) (sym (list_any-append (is_listed (rows_of p node)) (further number) (part_after (number + 1))) ∙ parts) in
      elim (cases_lt number i) [
        | inl end ↦
            let same : number + 1 ≡ i = omega (arith, end, high) in
            ap (λ n. list_any (is_listed (rows_of p node)) (part_after n)) (sym same) ∙ last
        | inr before ↦ each_new number fewer i low before
      ]

  -- where as many parts as two numbers say come round, the part after the one number brings new rows where that after the other does
  mirrored : (i j : ℕ) → head_of_parts (i + j) ≡ rounds p.stage → list_any (is_listed (rows_of p node)) (part_after i) ≡ false → list_any (is_listed (rows_of p node)) (part_after j) ≡ false
  mirrored i j round new = all_new_at (rows_of p node) (part_after j) (λ k inside held.
      let rows = rows_of p node in
      let low : k < length (rows_of p node) = omega (arith, inside, part_long j) in
      let (m, under, is) = held in
      let far : get_or (rows_of p node) m [] ≡ product (head_of_parts j) (get_or (rows_of p node) k []) =
      get_or_default (rows_of p node) m [] _ under ∙ is ∙ part_at j k low in
      let undoes : product (head_of_parts i) (head_of_parts j) ≡ rounds p.stage =
      sym (head_joined row_laws p (repeated i node) (repeated j node)) ∙ ap (head_of p) (sym (repeated_joined i j node)) ∙ round in
      let back : get_or (part_after i) m [] ≡ get_or (rows_of p node) k [] =
      part_at i m under ∙ ap (product (head_of_parts i)) far
      ∙ undone row_laws p.stage (head_of_parts i) (head_of_parts j) (get_or (rows_of p node) k []) (last_is_row row_laws p.stage (changes_of_all p (repeated j node))) undoes (rows_are_rows row_laws p.stage (changes_of_all p node) k [] low) in
      new_at (rows_of p node) (part_after i) new m (omega (arith, under, part_long i)) (subst (Contains (rows_of p node)) (sym back) (k, low, get_or_default (rows_of p node) k _ [] low)))

  -- so the first half of them tells of all
  module _ (number half : ℕ) (round : head_of_parts (number + 1) ≡ rounds p.stage) (within : half ≤ number) (enough : number ≤ 2 * half) where
    half_is_new : list_any (is_listed (rows_of p node)) (further number) ≡ false → list_any (is_listed (rows_of p node)) (further half) ≡ false
    half_is_new new = all_new half (λ i low high. each_new number new i low (omega (arith, high, within)))

    all_are_new : list_any (is_listed (rows_of p node)) (further half) ≡ false → list_any (is_listed (rows_of p node)) (further number) ≡ false
    all_are_new new = all_new number (λ i low high. elim (cases_lt half i) [
      | inr near ↦ each_new half new i low near
      | inl far ↦
          let other : number + 1 - i + i ≡ number + 1 = omega (arith, high) in
          mirrored (number + 1 - i) i (ap head_of_parts other ∙ round) (each_new half new (number + 1 - i) (omega (arith, high)) (omega (arith, far, enough)))
    ])

    half_told : list_any (is_listed (rows_of p node)) (further half) ≡ list_any (is_listed (rows_of p node)) (further number)
    half_told = by (list_any (is_listed (rows_of p node)) (further half)) refl (list_any (is_listed (rows_of p node)) (further number)) refl
      where
        by : (few : Bool) → list_any (is_listed (rows_of p node)) (further half) ≡ few → (all : Bool) → list_any (is_listed (rows_of p node)) (further number) ≡ all → few ≡ all
        by true some true every = refl
        by true some false every = absurd (false≢true (sym (half_is_new every) ∙ some))
        by false some true every = absurd (false≢true (sym (all_are_new some) ∙ every))
        by false some false every = refl

  -- half of the further parts tell whether all rows of the touch differ
  pub touch_told : (half : ℕ) → rows_differ (rows_of p node) ≡ true → head_of p (touch_of p node) ≡ rounds p.stage → half < parts_of p → parts_of p ≤ 2 * half + 1 →
      none_of (rows_of p node) (further half) ≡ rows_differ (rows_of p (touch_of p node))
  touch_told half differ round within enough =
      let all : parts_of p - 1 + 1 ≡ parts_of p = omega (arith, within) in
      ap not (half_told (parts_of p - 1) half (ap head_of_parts all ∙ round) (omega (arith, within)) (omega (arith, enough)))
      ∙ parts_told (parts_of p - 1) differ
      ∙ ap (λ n. rows_differ (rows_of p (repeated n node))) all
