-- The last of some rows.
use Rattle.std.proofs.Common.{◌≡◌, ◌≢◌, ℕ, suc, ◌-◌, ◌≤◌, List, [], ◌∷◌, length, get_or, refl, ap, ◌∙◌, arith}
use Rattle.std.specs.Bool.{Decides}
use Rattle.std.specs.Cmp.Lexicographic.{pointwise}
use Rattle.std.specs.List.{All}
use Rattle.std.specs.Prelude.{nat_eq}
use Rattle.std.proofs.lemmas.Slice.Eq.{bytes_eq-Decides}
use Rattle.std.proofs.lemmas.List.Elements.{All-head, All-tail}
use Rattle.cr_model.specs.Callings.{last_of}

-- by its place
pub last_at : (rows : List (List ℕ)) (row d : List ℕ) → 1 ≤ length rows
    → get_or rows (length rows - 1) d ≡ last_of row rows
last_at [] row d some = absurd (omega arith)
last_at (next ∷ []) row d some = refl
last_at (next ∷ second ∷ rows) row d some =
    let place : length (next ∷ second ∷ rows) - 1 ≡ suc (length (second ∷ rows) - 1) = omega arith in
    ap (λ i. get_or (next ∷ second ∷ rows) i d) place ∙ last_at (second ∷ rows) next d (omega arith)

-- what holds of each row, holds of the last
pub last_holds : (P : List ℕ → Type 0) (row : List ℕ) (rows : List (List ℕ)) → P row → All P rows → P (last_of row rows)
last_holds P row [] here all = here
last_holds P row (next ∷ rows) here all = last_holds P next rows (All-head P next rows all) (All-tail P next rows all)

-- of some rows also where it does not hold of the one before them
pub last_of_some : (P : List ℕ → Type 0) (row : List ℕ) (rows : List (List ℕ)) → 1 ≤ length rows → All P rows
    → P (last_of row rows)
last_of_some P row [] some all = absurd (omega arith)
last_of_some P row (next ∷ rows) some all = last_holds P next rows (All-head P next rows all) (All-tail P next rows all)

-- some rows are not none
pub some_rows : {X : Type 0} (xs : List X) → 1 ≤ length xs → xs ≢ []
some_rows xs some = λ none. absurd (let long : length xs ≡ 0 = ap length none in omega (arith, long))

-- rows that are told to be the same are one
pub same_rows : (a b : List ℕ) → Decides (pointwise nat_eq a b) (a ≡ b)
same_rows a b = bytes_eq-Decides a b
