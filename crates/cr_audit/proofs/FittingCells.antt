-- Cells that fit the bells of a row from a place on.
use Rattle.std.proofs.Common.{◌≡◌, ℕ, ◌+◌, ◌-◌, ◌<◌, ◌≤◌, true, false, nat_eq, List, [], ◌∷◌, length, get_or, drop, inl, inr, sym, ap, ◌∙◌, arith, length-drop}
use Rattle.std.specs.List.{range_with_len}
use Rattle.std.proofs.lemmas.Bool.{cases_eq, eq-eqb, false_from_ne_true, eqb-true}
use Rattle.std.proofs.lemmas.List.{drop_more, drop_all, drop-drop}
use Rattle.std.proofs.lemmas.List.Elements.{All-from_get_or}
use Rattle.std.proofs.lemmas.List.Folds.{list_any_none, list_any_at}
use Rattle.std.proofs.lemmas.List.FromFn.{get_or-range_with_len, length-range_with_len}
use Rattle.cr_model.specs.declared.query.Cell.{Cell}
use Rattle.cr_model.specs.declared.query.Cell.TheVariants as cell
use Rattle.cr_model.specs.Queries.{fits}

module _ (cells : List Cell) (row : List ℕ) (place : ℕ) where
  -- no cells
  pub fits_nothing : (stage : ℕ) → length cells ≡ 0 → stage ≡ length row → place ≤ length row → nat_eq place stage ≡ fits cells (drop place row)
  fits_nothing stage none long within = by cells none
    where
      by : (cs : List Cell) → length cs ≡ 0 → nat_eq place stage ≡ fits cs (drop place row)
      by (c ∷ cs) some = absurd (omega arith)
      by [] none' = elim (cases_eq place stage) [
        | inl last ↦ eq-eqb place stage last ∙ sym (ap (fits []) (drop_all place row (omega arith)))
        | inr other ↦ false_from_ne_true (nat_eq place stage) (λ h. other (eqb-true place stage h)) ∙ sym (ap (fits []) (drop_more row place 0 (omega arith)))
      ]

  -- one bell, whichever
  pub fits_one : (others : List Cell) → cells ≡ cell.Any ∷ others → place < length row → fits others (drop (place + 1) row) ≡ fits cells (drop place row)
  fits_one others is inside = sym (ap (fits (cell.Any ∷ others)) (drop_more row place 0 inside)) ∙ sym (ap (λ cs. fits cs (drop place row)) is)

  module _ (others : List Cell) (is : cells ≡ cell.Run ∷ others) where
    here : (number : ℕ) → place ≤ number → fits others (drop (number - place) (drop place row)) ≡ fits others (drop number row)
    here number from = ap (fits others) (drop-drop (number - place) place row) ∙ ap (λ n. fits others (drop n row)) (let e : place + (number - place) ≡ number = omega arith in e)

    -- some bells, or none, and then the others
    pub fits_later : (number : ℕ) → place ≤ number → number ≤ length row → fits others (drop number row) ≡ true → true ≡ fits cells (drop place row)
    fits_later number from to passes =
        let all = range_with_len 0 (length (drop place row) + 1) in
        let inside : number - place < length all = omega (arith, length-range_with_len 0 (length (drop place row) + 1), length-drop place row) in
        let at : get_or all (number - place) 0 ≡ number - place = get_or-range_with_len 0 (length (drop place row) + 1) (number - place) 0 (omega (arith, length-drop place row)) ∙ omega arith in
        sym (list_any_at (λ n. fits others (drop n (drop place row))) all (number - place) 0 inside
        (ap (λ n. fits others (drop n (drop place row))) at ∙ here number from ∙ passes))
        ∙ sym (ap (λ cs. fits cs (drop place row)) is)

    pub fits_never : place ≤ length row → ((k : ℕ) → place ≤ k → k < length row + 1 → fits others (drop k row) ≡ false) → false ≡ fits cells (drop place row)
    fits_never within none =
        let all = range_with_len 0 (length (drop place row) + 1) in
        sym (list_any_none (λ n. fits others (drop n (drop place row))) all
        (All-from_get_or (λ n. fits others (drop n (drop place row)) ≡ false) all 0 (λ i inside.
        let below : i < length (drop place row) + 1 = omega (arith, length-range_with_len 0 (length (drop place row) + 1)) in
        let at : get_or all i 0 ≡ i = get_or-range_with_len 0 (length (drop place row) + 1) i 0 below ∙ omega arith in
        let sum : (place + i) - place ≡ i = omega arith in
        ap (λ n. fits others (drop n (drop place row))) (at ∙ sym sum) ∙ here (place + i) (omega arith) ∙ none (place + i) (omega arith) (omega (arith, length-drop place row)))))
        ∙ sym (ap (λ cs. fits cs (drop place row)) is)
