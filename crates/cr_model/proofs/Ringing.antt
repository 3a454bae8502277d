-- Rows that are rung one after another, and from another row than rounds.
use Rattle.std.proofs.Common.{◌≡◌, ℕ, ◌+◌, List, [], ◌∷◌, ◌++◌, length, map, refl, sym, ap, ◌∙◌, length-append}
use Rattle.std.proofs.lemmas.List.Concat.{flat_map-append}
use Rattle.cr_row.specs.Rows.{Places, rounds, product, after}
use Rattle.cr_model.specs.Problems.{ProblemParts}
use Rattle.cr_model.specs.Callings.{changes_of, changes_of_all, rows_from, last_of, rows_of, length_of, head_of}

-- further changes are rung from the last row
pub rows_from-append : (row : List ℕ) (changes more : List Places)
    → rows_from row (changes ++ more) ≡ rows_from row changes ++ rows_from (last_of row (rows_from row changes)) more
rows_from-append row [] more = refl
rows_from-append row (change ∷ changes) more = ap (λ rows. after change row ∷ rows) (rows_from-append (after change row) changes more)

-- the last of further rows
pub last_of-append : (row : List ℕ) (rows more : List (List ℕ))
    → last_of row (rows ++ more) ≡ last_of (last_of row rows) more
last_of-append row [] more = refl
last_of-append row (next ∷ rows) more = last_of-append next rows more

-- the changes of a calling that goes on
pub changes-append : (p : ProblemParts) (calling more : List ℕ)
    → changes_of_all p (calling ++ more) ≡ changes_of_all p calling ++ changes_of_all p more
changes-append p calling more = flat_map-append (changes_of p) calling more

-- its rows
pub rows_on : (p : ProblemParts) (calling more : List ℕ)
    → rows_of p (calling ++ more) ≡ rows_of p calling ++ rows_from (head_of p calling) (changes_of_all p more)
rows_on p calling more = ap (rows_from (rounds p.stage)) (changes-append p calling more) ∙ rows_from-append (rounds p.stage) (changes_of_all p calling) (changes_of_all p more)

-- its length
pub lengths_on : (p : ProblemParts) (calling more : List ℕ)
    → length_of p (calling ++ more) ≡ length_of p calling + length_of p more
lengths_on p calling more = ap length (changes-append p calling more) ∙ length-append (changes_of_all p calling) (changes_of_all p more)

-- its head
pub head_on : (p : ProblemParts) (calling more : List ℕ)
    → head_of p (calling ++ more) ≡ last_of (head_of p calling) (rows_from (head_of p calling) (changes_of_all p more))
head_on p calling more = ap (last_of (rounds p.stage)) (rows_on p calling more) ∙ last_of-append (rounds p.stage) (rows_of p calling) (rows_from (head_of p calling) (changes_of_all p more))

-- a change after a product is the product with the changed row
abbrev pub AfterProduct : Type 0
AfterProduct = (c : Places) (h r : List ℕ) → after c (product h r) ≡ product h (after c r)

-- rounds is neutral on the right
abbrev pub RoundsRight : Type 0
RoundsRight = (h : List ℕ) → product h (rounds (length h)) ≡ h

-- the rows from a product are the products with the rows
pub rows_from_product : AfterProduct → (h row : List ℕ) (changes : List Places)
    → rows_from (product h row) changes ≡ map (product h) (rows_from row changes)
rows_from_product after_product h row [] = refl
rows_from_product after_product h row (change ∷ changes) =
    ap (λ r. r ∷ rows_from r changes) (after_product change h row) ∙ ap (λ rows. product h (after change row) ∷ rows) (rows_from_product after_product h (after change row) changes)

-- the product of a row with rounds is the row
pub product_of_rounds : RoundsRight → (row : List ℕ) (n : ℕ) → length row ≡ n → product row (rounds n) ≡ row
product_of_rounds right row n long = ap (λ k. product row (rounds k)) (sym long) ∙ right row

-- the rows from a row are its products with the rows from rounds
pub rung_from : AfterProduct → RoundsRight → (n : ℕ) (row : List ℕ) (changes : List Places) → length row ≡ n
    → rows_from row changes ≡ map (product row) (rows_from (rounds n) changes)
rung_from after_product right n row changes long = ap (λ r. rows_from r changes) (sym (product_of_rounds right row n long)) ∙ rows_from_product after_product row (rounds n) changes
