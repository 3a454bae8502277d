-- The last of some rows.
use Rattle.std.proofs.Common.{◌≡◌, ℕ, suc, ◌-◌, ◌≤◌, List, [], ◌∷◌, length, get_or, refl, ap, ◌∙◌, arith}
use Rattle.cr_row.specs.Rows.{Places, after}
use Rattle.cr_model.specs.Callings.{last_of, rows_from}

-- by its place
pub last_at : (rows : List (List ℕ)) (row d : List ℕ) → 1 ≤ length rows → get_or rows (length rows - 1) d ≡ last_of row rows
last_at [] row d some = absurd (omega arith)
last_at (next ∷ []) row d some = refl
last_at (next ∷ second ∷ rows) row d some =
    let place : length (next ∷ second ∷ rows) - 1 ≡ suc (length (second ∷ rows) - 1) = omega arith in
    ap (λ i. get_or (next ∷ second ∷ rows) i d) place ∙ last_at (second ∷ rows) next d (omega arith)

-- changes keep a row's length
pub last_long : ((c : Places) (r : List ℕ) → length (after c r) ≡ length r) → (row : List ℕ) (changes : List Places) → length (last_of row (rows_from row changes)) ≡ length row
last_long same row [] = refl
last_long same row (change ∷ changes) = last_long same (after change row) changes ∙ same change row

-- rows are as many as changes
pub as_many : (row : List ℕ) (changes : List Places) → length (rows_from row changes) ≡ length changes
as_many row [] = refl
as_many row (change ∷ changes) = omega (arith, as_many (after change row) changes)
