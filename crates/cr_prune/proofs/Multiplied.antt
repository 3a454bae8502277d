-- The rows of a node, so many times over.
use Rattle.std.proofs.Common.{◌≡◌, ℕ, zero, suc, ◌+◌, ◌-◌, ◌*◌, ◌<◌, ◌≤◌, Bool, ◌↔◌, true, List, [], ◌++◌, length, get_or, map, take, All, Contains, sym, ap, ◌∙◌, subst, arith, inl, inr, append-nil, length-append}
use Rattle.std.specs.Prelude.{IsTrue}
use Rattle.std.proofs.lemmas.Bool.{cases_lt}
use Rattle.std.proofs.lemmas.Bool.Decides.{same_from_decides}
use Rattle.std.proofs.lemmas.List.{get_or-map, length-map, get_or_append_left, get_or-append-add, get_or_default}
use Rattle.std.proofs.lemmas.List.Elements.{All-append}
use Rattle.cr_row.specs.Rows.{rounds, product}
use Rattle.cr_row.proofs.ChangeLaws.{IsRow-changed, length-changed, changed-product}
use Rattle.cr_row.proofs.RowLaws.{IsRow-rounds, length-rounds, product-rounds, rounds-product, product_assoc, product_left, inverse_right}
use Rattle.cr_model.specs.Problems.{ProblemParts}
use Rattle.cr_model.specs.Callings.{changes_of_all, rows_from, last_of, rows_of, head_of, AllDiffer}
use Rattle.cr_model.specs.Dead.{parts_of}
use Rattle.cr_model.specs.Decided.{rows_differ}
use Rattle.cr_model.specs.OneTurn.{touch_of}
use Rattle.cr_model.specs.Queries.{repeated}
use Rattle.cr_model.proofs.Bells.{RowLaws, IsRowOf, rows_are_rows, last_is_row, undone}
use Rattle.cr_model.proofs.Deciding.{rows_differ_decided}
use Rattle.cr_model.proofs.NewRows.{differ_joined}
use Rattle.cr_model.proofs.Ringing.{rows_from-append, rows_on, head_on, changes-append, rung_from}
use Rattle.cr_model.proofs.Turned.{head_joined}
use Rattle.cr_prune.specs.Parts.{AreNew}
use Rattle.cr_prune.specs.Holding.{AreFresh}
use Rattle.cr_prune.proofs.Leads.{all_fresh}
use Rattle.cr_prune.proofs.Past.{all_front, all_behind, repeated_joined, repeated_on}

-- the laws of rows and changes
pub row_laws : RowLaws
row_laws = record {
  rounds_row = IsRow-rounds;
  rounds_length = length-rounds;
  rounds_right = product-rounds;
  rounds_left = rounds-product;
  after_row = λ c r. IsRow-changed c.made r;
  after_length = λ c r. length-changed c.made 1 r;
  after_product = λ c h r. changed-product h c.made 1 r;
  associates = product_assoc;
  one_side = inverse_right;
}

-- products of one row with rows that differ do so too
pub products_differ : (n : ℕ) (h : List ℕ) (rows : List (List ℕ)) → IsRowOf n h → All (IsRowOf n) rows → AllDiffer rows → AllDiffer (map (product h) rows)
products_differ n h rows is are differ i j less inside same =
    let short : j < length rows = omega (arith, inside, length-map rows (product h)) in
    let low : i < length rows = omega (arith, less, short) in
    let one : get_or (map (product h) rows) i [] ≡ product h (get_or rows i []) = get_or-map (product h) rows i [] [] low in
    let two : get_or (map (product h) rows) j [] ≡ product h (get_or rows j []) = get_or-map (product h) rows j [] [] short in
    let a : IsRowOf n (get_or rows i []) = are i [] low in
    let b : IsRowOf n (get_or rows j []) = are j [] short in
    differ i j less short (product_left h (get_or rows i []) (get_or rows j []) is.is a.is b.is (a.long ∙ sym is.long) (b.long ∙ sym is.long) (sym one ∙ same ∙ two))

-- of joined rows that differ, none behind stands in front
pub new_from_differ : (rows more : List (List ℕ)) → AllDiffer (rows ++ more) → AreNew rows more
new_from_differ rows more differ = λ k d inside held.
    let whole : length (rows ++ more) ≡ length rows + length more = length-append rows more in
    let (i, low, is) = held in
    differ i (length rows + k) (omega (arith, low)) (omega (arith, inside, whole))
    (get_or_append_left rows more [] i low ∙ get_or_default rows i [] _ low ∙ is ∙ get_or_default more k d [] inside ∙ sym (get_or-append-add rows more k []))

module _ (p : ProblemParts) (node : List ℕ) where
  -- the rows of so many parts after the first
  abbrev pub further : ℕ → List (List ℕ)
  further number = rows_from (head_of p node) (changes_of_all p (repeated number node))

  -- the first part, and those after it
  pub parts_are : (number : ℕ) → rows_of p (repeated (number + 1) node) ≡ rows_of p node ++ further number
  parts_are number =
      let turned : 1 + number ≡ number + 1 = omega arith in
      ap (λ n. rows_of p (repeated n node)) (sym turned)
      ∙ ap (rows_of p) (repeated_joined 1 number node ∙ ap (λ front. front ++ repeated number node) (append-nil node))
      ∙ rows_on p node (repeated number node)

  -- one part more
  further_on : (number : ℕ) → further (number + 1) ≡ further number ++ rows_from (last_of (head_of p node) (further number)) (changes_of_all p node)
  further_on number =
      ap (rows_from (head_of p node)) (ap (changes_of_all p) (repeated_on number node) ∙ changes-append p (repeated number node) node)
      ∙ rows_from-append (head_of p node) (changes_of_all p (repeated number node)) (changes_of_all p node)

  -- the parts after the first are the parts before the last, by the head
  further_is : (number : ℕ) → further number ≡ map (product (head_of p node)) (rows_of p (repeated number node))
  further_is number = rung_from row_laws.after_product row_laws.rounds_right p.stage (head_of p node) (changes_of_all p (repeated number node)) (last_is_row row_laws p.stage (changes_of_all p node)).long

  -- where no row of the first part comes again, all differ
  all_differ : (number : ℕ) → AllDiffer (rows_of p node) → AreNew (rows_of p node) (further number) → AllDiffer (rows_of p (repeated (number + 1) node))
  all_differ zero differ new = subst AllDiffer (sym (parts_are zero ∙ append-nil (rows_of p node))) differ
  all_differ (suc number) differ new =
      let one : suc number ≡ number + 1 = omega arith in
      let fewer : AreNew (rows_of p node) (further number) =
      all_front (λ row. Contains (rows_of p node) row → ⊥) (further number) _ (subst (AreNew (rows_of p node)) (ap further one ∙ further_on number) new) in
      let before : AllDiffer (rows_of p (repeated (suc number) node)) = subst (λ n. AllDiffer (rows_of p (repeated n node))) (sym one) (all_differ number differ fewer) in
      let moved : AllDiffer (further (suc number)) = subst AllDiffer (sym (further_is (suc number)))
      (products_differ p.stage (head_of p node) (rows_of p (repeated (suc number) node)) (last_is_row row_laws p.stage (changes_of_all p node)) (rows_are_rows row_laws p.stage (changes_of_all p (repeated (suc number) node))) before) in
      subst AllDiffer (sym (parts_are (suc number)))
      (differ_joined (rows_of p node) (further (suc number)) differ moved (λ row here there. new there.0 row there.1 (subst (Contains (rows_of p node)) (sym there.2) here)))

  -- and the other way round
  pub parts_told : (number : ℕ) (b : Bool) → AllDiffer (rows_of p node) → (IsTrue b ↔ AreNew (rows_of p node) (further number)) → IsTrue b ↔ AllDiffer (rows_of p (repeated (number + 1) node))
  parts_told number b differ told = (
    λ h. all_differ number differ (told.0 h),
    λ all. told.1 (new_from_differ (rows_of p node) (further number) (subst AllDiffer (parts_are number) all)),
  )

  -- the head of so many parts, and the rows of the part after them
  abbrev pub head_after : ℕ → List ℕ
  head_after number = head_of p (repeated number node)

  abbrev pub part_after : ℕ → List (List ℕ)
  part_after number = rows_from (head_after number) (changes_of_all p node)

  part_is : (number : ℕ) → part_after number ≡ map (product (head_after number)) (rows_of p node)
  part_is number = rung_from row_laws.after_product row_laws.rounds_right p.stage (head_after number) (changes_of_all p node) (last_is_row row_laws p.stage (changes_of_all p (repeated number node))).long

  -- its row at a place
  part_at : (number place : ℕ) → place < length (rows_of p node) → get_or (part_after number) place [] ≡ product (head_after number) (get_or (rows_of p node) place [])
  part_at number place inside = ap (λ rows. get_or rows place []) (part_is number) ∙ get_or-map (product (head_after number)) (rows_of p node) place [] [] inside

  part_long : (number : ℕ) → length (part_after number) ≡ length (rows_of p node)
  part_long number = ap length (part_is number) ∙ length-map (rows_of p node) (product (head_after number))

  -- one part more
  further_part : (number : ℕ) → further (number + 1) ≡ further number ++ part_after (number + 1)
  further_part number =
      let turned : 1 + number ≡ number + 1 = omega arith in
      further_on number
      ∙ ap (λ row. further number ++ rows_from row (changes_of_all p node))
      (sym (head_on p node (repeated number node)) ∙ ap (head_of p) (ap (λ front. front ++ repeated number node) (sym (append-nil node)) ∙ sym (repeated_joined 1 number node) ∙ ap (λ n. repeated n node) turned))

  -- parts bring new rows where each of them does
  all_new : (number : ℕ) → ((i : ℕ) → 1 ≤ i → i ≤ number → AreNew (rows_of p node) (part_after i)) → AreNew (rows_of p node) (further number)
  all_new zero each = λ k d inside. absurd (omega arith)
  all_new (suc number) each =
      let one : number + 1 ≡ suc number = omega arith in
      subst (λ n. AreNew (rows_of p node) (further n)) one
      (subst (AreNew (rows_of p node)) (sym (further_part number))
      (All-append (λ row. Contains (rows_of p node) row → ⊥) (further number) (part_after (number + 1))
      (all_new number (λ i low high. each i low (omega arith)))
      (each (number + 1) (omega arith) (omega arith))))

  each_new : (number : ℕ) → AreNew (rows_of p node) (further number) → (i : ℕ) → 1 ≤ i → i ≤ number → AreNew (rows_of p node) (part_after i)
  each_new zero new i low high = absurd (omega arith)
  each_new (suc number) new i low high =
      let one : suc number ≡ number + 1 = omega arith in
      let joined : AreNew (rows_of p node) (further number ++ part_after (number + 1)) = subst (AreNew (rows_of p node)) (ap further one ∙ further_part number) new in
      elim (cases_lt number i) [
        | inl last ↦
            let end : number + 1 ≡ i = omega (arith, last, high) in
            subst (λ n. AreNew (rows_of p node) (part_after n)) end (all_behind (λ row. Contains (rows_of p node) row → ⊥) (further number) (part_after (number + 1)) joined)
        | inr before ↦ each_new number (all_front (λ row. Contains (rows_of p node) row → ⊥) (further number) (part_after (number + 1)) joined) i low (omega (arith, before))
      ]

  -- where as many parts as two numbers say come round, the part after the one number brings new rows where that after the other does
  mirrored : (i j : ℕ) → head_after (i + j) ≡ rounds p.stage → AreNew (rows_of p node) (part_after i) → AreNew (rows_of p node) (part_after j)
  mirrored i j round new = λ k d inside held.
      let rows = rows_of p node in
      let low : k < length rows = omega (arith, inside, part_long j) in
      let (m, under, is) = held in
      let far : get_or rows m [] ≡ product (head_after j) (get_or rows k []) =
      get_or_default rows m [] _ under ∙ is ∙ get_or_default (part_after j) k d [] inside ∙ part_at j k low in
      let undoes : product (head_after i) (head_after j) ≡ rounds p.stage =
      sym (head_joined row_laws p (repeated i node) (repeated j node)) ∙ ap (head_of p) (sym (repeated_joined i j node)) ∙ round in
      let back : get_or (part_after i) m [] ≡ get_or rows k [] =
      part_at i m under ∙ ap (product (head_after i)) far
      ∙ undone row_laws p.stage (head_after i) (head_after j) (get_or rows k []) (last_is_row row_laws p.stage (changes_of_all p (repeated j node))) undoes (rows_are_rows row_laws p.stage (changes_of_all p node) k [] low) in
      new m [] (omega (arith, under, part_long i)) (subst (Contains rows) (sym back) (k, low, get_or_default rows k _ [] low))

  -- so the first half of them tells of all
  module _ (number half : ℕ) (round : head_after (number + 1) ≡ rounds p.stage) (within : half ≤ number) (enough : number ≤ 2 * half) where
    half_is_new : AreNew (rows_of p node) (further number) → AreNew (rows_of p node) (further half)
    half_is_new new = all_new half (λ i low high. each_new number new i low (omega (arith, high, within)))

    all_are_new : AreNew (rows_of p node) (further half) → AreNew (rows_of p node) (further number)
    all_are_new new = all_new number (λ i low high. elim (cases_lt half i) [
      | inr near ↦ each_new half new i low (omega (arith, near))
      | inl far ↦
          let other : number + 1 - i + i ≡ number + 1 = omega (arith, high) in
          mirrored (number + 1 - i) i (ap head_after other ∙ round) (each_new half new (number + 1 - i) (omega (arith, high)) (omega (arith, far, enough)))
    ])

    half_told : (b : Bool) → (IsTrue b ↔ AreNew (rows_of p node) (further half)) → IsTrue b ↔ AreNew (rows_of p node) (further number)
    half_told b told = (λ h. all_are_new (told.0 h), λ new. told.1 (half_is_new new))

  -- so a walk, which holds the leads of the node, tells whether all rows of the touch differ
  pub touch_told : (fresh : ℕ) (head : List ℕ) (steps : List ℕ) (half : ℕ) (b : Bool) → AreFresh p node fresh → rows_differ (rows_of p node) ≡ true →
      head_of p (touch_of p node) ≡ rounds p.stage → head ≡ head_of p node → steps ≡ node → half < parts_of p → parts_of p ≤ 2 * half + 1 →
      (IsTrue b ↔ AreNew (rows_of p (take fresh steps)) (rows_from head (changes_of_all p (repeated half steps)))) → b ≡ rows_differ (rows_of p (touch_of p node))
  touch_told fresh head steps half b are differ round head_is steps_are within enough told =
      let differ' : AllDiffer (rows_of p node) = (rows_differ_decided (rows_of p node)).0 differ in
      let told' : IsTrue b ↔ AreNew (rows_of p node) (further half) =
      subst (λ (leads : List ℕ). IsTrue b ↔ AreNew (rows_of p leads) (further half)) (all_fresh p node fresh are differ')
      (subst (λ row. IsTrue b ↔ AreNew (rows_of p (take fresh node)) (rows_from row (changes_of_all p (repeated half node)))) head_is
      (subst (λ word. IsTrue b ↔ AreNew (rows_of p (take fresh word)) (rows_from head (changes_of_all p (repeated half word)))) steps_are told)) in
      let all : parts_of p - 1 + 1 ≡ parts_of p = omega (arith, within) in
      let round' : head_after (parts_of p - 1 + 1) ≡ rounds p.stage = ap head_after all ∙ round in
      same_from_decides b (rows_differ (rows_of p (touch_of p node)))
      (subst (λ n. IsTrue b ↔ AllDiffer (rows_of p (repeated n node))) all
      (parts_told (parts_of p - 1) b differ' (half_told (parts_of p - 1) half round' (omega (arith, within)) (omega (arith, enough)) b told')))
      (rows_differ_decided (rows_of p (touch_of p node)))
