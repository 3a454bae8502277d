-- Rows that stand twice, row by row.
use Rattle.std.proofs.Common.{◌≡◌, ℕ, ◌+◌, ◌<◌, Bool, true, false, not, ◌&&◌, ◌||◌, List, [], ◌∷◌, length, get_or, drop, refl, sym, ap, ap₂, ◌∙◌, nat_eq}
use Rattle.std.specs.Cmp.Lexicographic.{pointwise}
use Rattle.std.specs.List.{list_any, list_all}
use Rattle.std.proofs.lemmas.Cmp.{nat_list_eq_equiv}
use Rattle.std.proofs.lemmas.List.{drop_more}
use Rattle.cr_model.specs.Decided.{rows_differ}

-- none is the row where each is another
not_or : (a b : Bool) → not (a || b) ≡ (not a && not b)
not_or true b = refl
not_or false b = refl

pub none_like : (row : List ℕ) (rows : List (List ℕ)) → list_all (λ other. not (pointwise nat_eq row other)) rows ≡ not (list_any (λ other. pointwise nat_eq other row) rows)
none_like row [] = refl
none_like row (other ∷ rows) =
    ap₂ (λ a b. not a && b) (nat_list_eq_equiv.symm row other) (none_like row rows)
    ∙ sym (not_or (pointwise nat_eq other row) (list_any (λ o. pointwise nat_eq o row) rows))

-- the rows from a place on
pub differ_on : (rows : List (List ℕ)) (index : ℕ) (row : List ℕ) → index < length rows → row ≡ get_or rows index row →
    rows_differ (drop index rows) ≡ (not (list_any (λ other. pointwise nat_eq other row) (drop (index + 1) rows)) && rows_differ (drop (index + 1) rows))
differ_on rows index row inside is =
    ap rows_differ (drop_more rows index row inside ∙ ap (λ r. r ∷ drop (index + 1) rows) (sym is))
    ∙ ap (λ b. b && rows_differ (drop (index + 1) rows)) (none_like row (drop (index + 1) rows))
