-- A rotation of a true touch is one.
use Rattle.std.proofs.Common.{◌≡◌, ◌≢◌, ℕ, ◌+◌, List, [], ◌∷◌, ◌++◌, length, map, All, refl, sym, ap, ◌∙◌, subst, arith, length-append}
use Rattle.std.proofs.lemmas.List.{nil_from_length, map-append}
use Rattle.std.proofs.lemmas.List.Elements.{All-weaker}
use Rattle.cr_row.specs.Rows.{rounds, product}
use Rattle.cr_model.specs.Problems.{ProblemParts}
use Rattle.cr_model.specs.Callings.{changes_of_all, last_of, rows_of, length_of, head_of, AllDiffer, TrueTouch}
use Rattle.cr_model.specs.Touches.{IsRotation}
use Rattle.cr_model.proofs.Bells.{RowLaws, IsRowOf, rows_are_rows, last_is_row, undone, undone_back}
use Rattle.cr_model.proofs.Differing.{differ_swapped, differ_mapped, map_undone}
use Rattle.cr_model.proofs.Ringing.{rows_on, lengths_on, head_on, rung_from, product_of_rounds}

-- the last of mapped rows
last_of-map : (f : List ℕ → List ℕ) (row : List ℕ) (rows : List (List ℕ))
    → last_of (f row) (map f rows) ≡ f (last_of row rows)
last_of-map f row [] = refl
last_of-map f row (next ∷ rows) = last_of-map f next rows

module _ (laws : RowLaws) where
  -- a head is a row of the stage
  head_is_row : (p : ProblemParts) (calling : List ℕ) → IsRowOf p.stage (head_of p calling)
  head_is_row p calling = last_is_row laws p.stage (changes_of_all p calling)

  -- the rows of joined callings
  pub rows_joined : (p : ProblemParts) (calling more : List ℕ)
      → rows_of p (calling ++ more) ≡ rows_of p calling ++ map (product (head_of p calling)) (rows_of p more)
  rows_joined p calling more = rows_on p calling more ∙ ap (λ rows. rows_of p calling ++ rows) (rung_from laws.after_product laws.rounds_right p.stage (head_of p calling) (changes_of_all p more) (head_is_row p calling).long)

  -- the head of joined callings
  pub head_joined : (p : ProblemParts) (calling more : List ℕ)
      → head_of p (calling ++ more) ≡ product (head_of p calling) (head_of p more)
  head_joined p calling more =
      let head : List ℕ = head_of p calling in
      let long : length (head_of p calling) ≡ p.stage = (head_is_row p calling).long in
      head_on p calling more
      ∙ ap (last_of head) (rung_from laws.after_product laws.rounds_right p.stage head (changes_of_all p more) long)
      ∙ ap (λ row. last_of row (map (product head) (rows_of p more))) (sym (product_of_rounds laws.rounds_right head p.stage long))
      ∙ last_of-map (product head) (rounds p.stage) (rows_of p more)

-- a rotation is as long
length_turned : (p : ProblemParts) (calling other : List ℕ) → IsRotation calling other
    → length_of p other ≡ length_of p calling
length_turned p calling other turned =
    let one : length_of p calling ≡ length_of p turned.0 + length_of p turned.1 = ap (length_of p) turned.2 ∙ lengths_on p turned.0 turned.1 in
    let two : length_of p other ≡ length_of p turned.1 + length_of p turned.0 = ap (length_of p) turned.3 ∙ lengths_on p turned.1 turned.0 in
    omega arith

-- a rotation of a calling with leads has some
some_turned : (calling other : List ℕ) → IsRotation calling other → calling ≢ [] → other ≢ []
some_turned calling other turned some none =
    let one : length calling ≡ length turned.0 + length turned.1 = ap length turned.2 ∙ length-append turned.0 turned.1 in
    let two : length other ≡ length turned.1 + length turned.0 = ap length turned.3 ∙ length-append turned.1 turned.0 in
    let three : length other ≡ 0 = ap length none in
    some (nil_from_length calling (omega arith))

-- two callings that come round together, joined the other way
module _ (laws : RowLaws) (p : ProblemParts) (front back : List ℕ) (round : product (head_of p front) (head_of p back) ≡ rounds p.stage) where
  -- the heads undo each other
  round_back : product (head_of p back) (head_of p front) ≡ rounds p.stage
  round_back = undone_back laws p.stage (head_of p front) (head_of p back) (head_is_row laws p front) (head_is_row laws p back) round

  -- the rotation comes round
  pub round_turned : head_of p (back ++ front) ≡ rounds p.stage
  round_turned = head_joined laws p back front ∙ round_back

  -- the head of the back undoes that of the front
  back_undoes : All (λ row. product (head_of p back) (product (head_of p front) row) ≡ row) (rows_of p back)
  back_undoes = All-weaker (IsRowOf p.stage) (λ row. product (head_of p back) (product (head_of p front) row) ≡ row)
      (λ row is. undone laws p.stage (head_of p back) (head_of p front) row (head_is_row laws p front) round_back is) (rows_of p back) (rows_are_rows laws p.stage (changes_of_all p back))

  -- and that of the front undoes it
  front_undoes : All (λ row. product (head_of p front) (product (head_of p back) row) ≡ row) (rows_of p (front ++ back))
  front_undoes = All-weaker (IsRowOf p.stage) (λ row. product (head_of p front) (product (head_of p back) row) ≡ row)
      (λ row is. undone laws p.stage (head_of p front) (head_of p back) row (head_is_row laws p back) round is) (rows_of p (front ++ back)) (rows_are_rows laws p.stage (changes_of_all p (front ++ back)))

  -- the rows by the head of the back are those of the rotation, in another order
  rows_turned : map (product (head_of p back)) (rows_of p (front ++ back)) ≡ map (product (head_of p back)) (rows_of p front) ++ rows_of p back
  rows_turned =
      ap (map (product (head_of p back))) (rows_joined laws p front back)
      ∙ map-append (product (head_of p back)) (rows_of p front) (map (product (head_of p front)) (rows_of p back))
      ∙ ap (λ rows. map (product (head_of p back)) (rows_of p front) ++ rows) (map_undone (product (head_of p front)) (product (head_of p back)) (rows_of p back) back_undoes)

  -- so they differ
  pub differ_turned : AllDiffer (rows_of p (front ++ back)) → AllDiffer (rows_of p (back ++ front))
  differ_turned differ =
      let all : AllDiffer (map (product (head_of p back)) (rows_of p (front ++ back))) = differ_mapped (product (head_of p back)) (product (head_of p front)) (rows_of p (front ++ back)) front_undoes differ in
      subst AllDiffer (sym (rows_joined laws p back front)) (differ_swapped (map (product (head_of p back)) (rows_of p front)) (rows_of p back) (subst AllDiffer rows_turned all))

-- a rotation of a true touch is a true touch of its length
pub touch_turned : RowLaws → (p : ProblemParts) (calling other : List ℕ) → TrueTouch p calling
    → IsRotation calling other → TrueTouch p other × (length_of p other ≡ length_of p calling)
touch_turned laws p calling other touch turned =
    let round : product (head_of p turned.0) (head_of p turned.1) ≡ rounds p.stage = sym (head_joined laws p turned.0 turned.1) ∙ ap (head_of p) (sym turned.2) ∙ touch.round in
    let differ : AllDiffer (rows_of p (turned.0 ++ turned.1)) = subst (λ (c : List ℕ). AllDiffer (rows_of p c)) turned.2 touch.differ in
    let touch' : TrueTouch p other = record {
      some = some_turned calling other turned touch.some;
      round = ap (head_of p) turned.3 ∙ round_turned laws p turned.0 turned.1 round;
      differ = subst (λ (c : List ℕ). AllDiffer (rows_of p c)) (sym turned.3) (differ_turned laws p turned.0 turned.1 round differ);
    } in
    (touch', length_turned p calling other turned)
