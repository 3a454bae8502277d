-- Rows that differ, in another order and after a step that can be undone.
use Rattle.std.proofs.Common.{◌≡◌, ℕ, ◌<◌, List, [], ◌∷◌, ◌++◌, length, get_or, map, All, bytes_eq, refl, sym, ap, ap₂, ◌∙◌, arith}
use Rattle.std.specs.List.{IsDistinct}
use Rattle.std.proofs.lemmas.Bool.{false_from_ne_true}
use Rattle.std.proofs.lemmas.Bool.Decides.{not_from_Decides}
use Rattle.std.proofs.lemmas.Cmp.{nat_list_eq_equiv}
use Rattle.std.proofs.lemmas.List.{get_or-map, length-map, get_or_default}
use Rattle.std.proofs.lemmas.List.Elements.{All-head, All-tail}
use Rattle.std.proofs.lemmas.List.Sorted.{IsPermutation-append_comm}
use Rattle.std.proofs.lemmas.Map.Keys.{IsDistinct-from_apart, IsDistinct-IsPermutation, apart_from_distinct}
use Rattle.std.proofs.lemmas.Slice.Eq.{bytes_eq-Decides}
use Rattle.cr_model.specs.Callings.{AllDiffer}

-- rows that differ, in std's word
distinct : (rows : List (List ℕ)) → AllDiffer rows → IsDistinct bytes_eq rows
distinct rows differ = IsDistinct-from_apart bytes_eq rows (λ i j d less inside.
    false_from_ne_true (bytes_eq (get_or rows i d) (get_or rows j d)) (λ same.
    differ i j less inside (get_or_default rows i [] d (omega arith) ∙ (bytes_eq-Decides (get_or rows i d) (get_or rows j d)).0 same ∙ get_or_default rows j d [] inside)))

-- and back
differ_from_distinct : (rows : List (List ℕ)) → IsDistinct bytes_eq rows → AllDiffer rows
differ_from_distinct rows h i j less inside = not_from_Decides (bytes_eq (get_or rows i []) (get_or rows j [])) (bytes_eq-Decides (get_or rows i []) (get_or rows j [])) (apart_from_distinct bytes_eq rows i j [] h less inside)

-- in the other order
pub differ_swapped : (rows more : List (List ℕ)) → AllDiffer (rows ++ more) → AllDiffer (more ++ rows)
differ_swapped rows more h =
    differ_from_distinct (more ++ rows) (IsDistinct-IsPermutation bytes_eq nat_list_eq_equiv.symm (rows ++ more) (more ++ rows) (IsPermutation-append_comm rows more) (distinct (rows ++ more) h))

module _ (step undo : List ℕ → List ℕ) where
  -- rows stepped and undone
  pub map_undone : (rows : List (List ℕ)) → All (λ row. undo (step row) ≡ row) rows → map undo (map step rows) ≡ rows
  map_undone [] h = refl
  map_undone (row ∷ rows) h = ap₂ ◌∷◌ (All-head (λ row. undo (step row) ≡ row) row rows h) (map_undone rows (All-tail (λ row. undo (step row) ≡ row) row rows h))

  -- rows that differ do so after a step that can be undone
  pub differ_mapped : (rows : List (List ℕ)) → All (λ row. undo (step row) ≡ row) rows → AllDiffer rows → AllDiffer (map step rows)
  differ_mapped rows h differ i j less inside same =
      let short : j < length rows = omega (arith, length-map rows step) in
      let one : get_or (map step rows) i [] ≡ step (get_or rows i []) = get_or-map step rows i [] [] (omega arith) in
      let two : get_or (map step rows) j [] ≡ step (get_or rows j []) = get_or-map step rows j [] [] short in
      differ i j less short (sym (h i [] (omega arith)) ∙ ap undo (sym one ∙ same ∙ two) ∙ h j [] short)
