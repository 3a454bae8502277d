-- Rows by their places.
use Rattle.std.proofs.Common.{◌≡◌, ℕ, zero, suc, ◌+◌, ◌-◌, ◌<◌, ◌≤◌, List, [], ◌∷◌, ◌++◌, length, get_or, take, refl, sym, ap, ◌∙◌, arith, length-append}
use Rattle.std.proofs.lemmas.List.{get_or_append_left, get_or-append_right}
use Rattle.cr_row.specs.Rows.{Places, rounds, after}
use Rattle.cr_model.specs.Problems.{ProblemParts}
use Rattle.cr_model.specs.Callings.{changes_of_all, rows_from, last_of, rows_of, length_of, head_of}
use Rattle.cr_audit.specs.Paths.{front, last_lead}
use Rattle.cr_audit.proofs.LastRows.{as_many}
use Rattle.cr_audit.proofs.Paths.{whole_rows}

-- the row after the change at an index
pub row_at_change : (row : List ℕ) (changes : List Places) (index : ℕ) → index < length changes
    → last_of row (rows_from row (take (index + 1) changes)) ≡ get_or (rows_from row changes) index []
row_at_change row changes index inside = ap (λ n. last_of row (rows_from row (take n changes))) (let e : index + 1 ≡ suc index = omega arith in e) ∙ by row changes index inside
  where
    by : (row : List ℕ) (changes : List Places) (index : ℕ) → index < length changes
        → last_of row (rows_from row (take (suc index) changes)) ≡ get_or (rows_from row changes) index []
    by row [] index inside = absurd (omega arith)
    by row (change ∷ changes) zero inside = refl
    by row (change ∷ changes) (suc index) inside = by (after change row) changes index (omega arith)

-- a node's rows are as many as its changes
pub counted : (p : ProblemParts) (node : List ℕ) → length (rows_of p node) ≡ length_of p node
counted p node = as_many (rounds p.stage) (changes_of_all p node)

-- those before the last lead and those in it
pub size_is : (p : ProblemParts) (node : List ℕ) (before last : ℕ) → before ≡ length (rows_of p (front node)) → last ≡ length (changes_of_all p (last_lead node))
    → before + last ≡ length_of p node
size_is p node before last few more =
    let rows = rows_from (head_of p (front node)) (changes_of_all p (last_lead node)) in
    omega (arith, few, more, counted p node, ap length (whole_rows p node), length-append (rows_of p (front node)) rows, as_many (head_of p (front node)) (changes_of_all p (last_lead node)))

pub row_before : (p : ProblemParts) (node : List ℕ) (rows : List (List ℕ)) (place : ℕ) → rows ≡ rows_of p (front node) → place < length rows
    → get_or rows place [] ≡ get_or (rows_of p node) place []
row_before p node rows place is inside =
    let more = rows_from (head_of p (front node)) (changes_of_all p (last_lead node)) in
    sym (get_or_append_left rows more [] place inside) ∙ ap (λ rs. get_or (rs ++ more) place []) is ∙ ap (λ rs. get_or rs place []) (sym (whole_rows p node))

pub row_in : (p : ProblemParts) (node : List ℕ) (before place : ℕ) → before ≡ length (rows_of p (front node)) → before ≤ place
    → get_or (rows_from (head_of p (front node)) (changes_of_all p (last_lead node))) (place - before) [] ≡ get_or (rows_of p node) place []
row_in p node before place is behind =
    let more = rows_from (head_of p (front node)) (changes_of_all p (last_lead node)) in
    ap (λ n. get_or more (place - n) []) is ∙ sym (get_or-append_right (rows_of p (front node)) more (length (rows_of p (front node))) place [] refl (omega arith)) ∙ ap (λ rs. get_or rs place []) (sym (whole_rows p node))
