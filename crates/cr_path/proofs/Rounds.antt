-- Where a lead that is rung from a head brings rounds, told by the inverse of the head.
use Rattle.std.proofs.Common.{◌≡◌, ℕ, ◌-◌, Bool, ◌&&◌, ◌||◌, nat_eq, nat_lt, List, [], ◌∷◌, length, map, take, drop, All, refl, sym, ap, ap₂, ◌∙◌, subst}
use Rattle.std.specs.Cmp.Lexicographic.{pointwise}
use Rattle.std.proofs.lemmas.Bool.Decides.{same_from_decides, Decides-like}
use Rattle.std.proofs.lemmas.Slice.Eq.{bytes_eq-Decides}
use Rattle.std.proofs.lemmas.List.{take-map, drop-map, length-map, take_rest}
use Rattle.std.proofs.lemmas.List.Elements.{All-head, All-tail, All-take, All-drop}
use Rattle.cr_row.specs.Rows.{IsInverse, rounds, product}
use Rattle.cr_row.proofs.Inverses.{IsRow-inverse}
use Rattle.cr_row.proofs.RowLaws.{product_left, length-product, length-rounds}
use Rattle.cr_model.specs.Problems.{ProblemParts}
use Rattle.cr_model.specs.Callings.{changes_of_all, rows_of}
use Rattle.cr_model.specs.Dead.{parts_of, has_rounds}
use Rattle.cr_model.specs.Levels.{is_listed}
use Rattle.cr_model.proofs.Bells.{IsRowOf, last_is_row, rows_are_rows}
use Rattle.cr_path.specs.Numbers.{lead_from, brings_round}
use Rattle.cr_path.specs.Rung.{IsReached}
use Rattle.cr_path.proofs.Children.{row_laws}

module _ (p : ProblemParts) (head inverse : List ℕ) (reached : IsReached p head) (undoes : IsInverse head inverse) where
  head_is : IsRowOf p.stage head
  head_is = subst (IsRowOf p.stage) (sym reached.is) (last_is_row row_laws p.stage (changes_of_all p reached.calling))

  undone : product head inverse ≡ rounds p.stage
  undone = undoes.right ∙ ap rounds head_is.long

  long : length inverse ≡ length head
  long = sym (length-product head inverse) ∙ ap length undoes.right ∙ length-rounds (length head)

  one_round : (row : List ℕ) → IsRowOf p.stage row → pointwise nat_eq inverse row ≡ pointwise nat_eq (rounds p.stage) (product head row)
  one_round row is = same_from_decides (pointwise nat_eq inverse row) (pointwise nat_eq (rounds p.stage) (product head row)) (bytes_eq-Decides inverse row)
      (Decides-like (pointwise nat_eq (rounds p.stage) (product head row))
      (λ same. product_left head inverse row head_is.is (IsRow-inverse head inverse head_is.is undoes) is.is long (is.long ∙ sym head_is.long) (undone ∙ same))
      (λ same. sym undone ∙ ap (product head) same)
      (bytes_eq-Decides (rounds p.stage) (product head row)))

  some_round : (rows : List (List ℕ)) → All (IsRowOf p.stage) rows → is_listed rows inverse ≡ has_rounds p (map (product head) rows)
  some_round [] all = refl
  some_round (row ∷ rows) all =
      ap₂ (λ (a b : Bool). a || b) (one_round row (All-head (IsRowOf p.stage) row rows all)) (some_round rows (All-tail (IsRowOf p.stage) row rows all))

  module _ (step : ℕ) where
    abbrev rows : List (List ℕ)
    rows = rows_of p (step ∷ [])

    are_rows : All (IsRowOf p.stage) rows
    are_rows = rows_are_rows row_laws p.stage (changes_of_all p (step ∷ []))

    pub lead_has_round : is_listed rows inverse ≡ has_rounds p (lead_from p head step)
    lead_has_round = some_round rows are_rows

    -- and where it brings it too early
    pub lead_brings_round : (is_listed (take (length rows - 1) rows) inverse || (is_listed (drop (length rows - 1) rows) inverse && nat_lt 1 (parts_of p))) ≡ brings_round p (lead_from p head step)
    lead_brings_round =
        let place : length (lead_from p head step) ≡ length rows = length-map rows (product head) in
        let front : is_listed (take (length rows - 1) rows) inverse ≡ has_rounds p (take (length (lead_from p head step) - 1) (lead_from p head step)) =
        some_round (take (length rows - 1) rows) (All-take (IsRowOf p.stage) (length rows - 1) rows are_rows)
        ∙ ap (has_rounds p) (sym (take-map (product head) (length rows - 1) rows) ∙ ap (λ n. take (n - 1) (lead_from p head step)) (sym place)) in
        let back : is_listed (drop (length rows - 1) rows) inverse ≡ has_rounds p (drop (length (lead_from p head step) - 1) (lead_from p head step)) =
        some_round (drop (length rows - 1) rows) (All-drop (IsRowOf p.stage) (length rows - 1) rows are_rows)
        ∙ ap (has_rounds p) (sym (drop-map (product head) (length rows - 1) rows) ∙ ap (λ n. drop (n - 1) (lead_from p head step)) (sym place)) in
        ap₂ (λ (a b : Bool). a || (b && nat_lt 1 (parts_of p))) front back

    -- told by the rows before the last and the last one
    pub told_early : (all : List (List ℕ)) (last : ℕ) (before there : Bool) → all ≡ rows → last ≡ length all - 1 → before ≡ is_listed (take last all) inverse
        → there ≡ is_listed (take (length all - last) (drop last all)) inverse → (before || (there && nat_lt 1 (parts_of p))) ≡ brings_round p (lead_from p head step)
    told_early all last before there same last_is before_is there_is =
        let at_last : last ≡ length rows - 1 = last_is ∙ ap (λ (rs : List (List ℕ)). length rs - 1) same in
        ap₂ (λ (a b : Bool). a || (b && nat_lt 1 (parts_of p)))
        (before_is ∙ ap₂ (λ (n : ℕ) (rs : List (List ℕ)). is_listed (take n rs) inverse) at_last same)
        (there_is ∙ ap (λ (rs : List (List ℕ)). is_listed rs inverse) (take_rest all last) ∙ ap₂ (λ (n : ℕ) (rs : List (List ℕ)). is_listed (drop n rs) inverse) at_last same)
        ∙ lead_brings_round
