-- Products with one row.
use Rattle.std.proofs.Common.{◌≡◌, ℕ, ◌<◌, List, [], length, get_or, map, All, sym, ap, ◌∙◌, arith}
use Rattle.std.proofs.lemmas.List.{get_or-map, length-map}
use Rattle.cr_row.specs.Rows.{product}
use Rattle.cr_row.proofs.RowLaws.{product_left}
use Rattle.cr_model.specs.Callings.{AllDiffer}
use Rattle.cr_model.proofs.Bells.{IsRowOf}

-- products of one row with rows that differ do so too
pub products_differ : (n : ℕ) (h : List ℕ) (rows : List (List ℕ)) → IsRowOf n h → All (IsRowOf n) rows → AllDiffer rows → AllDiffer (map (product h) rows)
products_differ n h rows is are differ i j less inside same =
    let short : j < length rows = omega (arith, inside, length-map rows (product h)) in
    let low : i < length rows = omega (arith, less, short) in
    let one : get_or (map (product h) rows) i [] ≡ product h (get_or rows i []) = get_or-map (product h) rows i [] [] low in
    let two : get_or (map (product h) rows) j [] ≡ product h (get_or rows j []) = get_or-map (product h) rows j [] [] short in
    let a : IsRowOf n (get_or rows i []) = are i [] low in
    let b : IsRowOf n (get_or rows j []) = are j [] short in
    differ i j less short (product_left h (get_or rows i []) (get_or rows j []) is.is a.is b.is (a.long ∙ sym is.long) (b.long ∙ sym is.long) (sym one ∙ same ∙ two))

-- and rows differ where their products with one row do
pub factors_differ : (h : List ℕ) (rows : List (List ℕ)) → AllDiffer (map (product h) rows) → AllDiffer rows
factors_differ h rows differ i j less inside same =
    let low : i < length rows = omega (arith, less, inside) in
    let one : get_or (map (product h) rows) i [] ≡ product h (get_or rows i []) = get_or-map (product h) rows i [] [] low in
    let two : get_or (map (product h) rows) j [] ≡ product h (get_or rows j []) = get_or-map (product h) rows j [] [] inside in
    differ i j less (omega (arith, inside, length-map rows (product h))) (one ∙ ap (product h) same ∙ sym two)
