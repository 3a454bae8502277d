-- Rows of nodes with a lead more, and with one less.
use Rattle.std.proofs.Common.{◌≡◌, ℕ, ◌+◌, ◌-◌, ◌<◌, ◌≤◌, true, false, not, nat_eq, List, [], ◌∷◌, ◌++◌, length, take, drop, sym, ap, ◌∙◌, subst, arith, inl, inr, append-nil, length-append}
use Rattle.std.proofs.lemmas.Bool.{cases_eq, false_from_ne_true}
use Rattle.std.proofs.lemmas.Bool.Decides.{eqb_tells}
use Rattle.cr_model.specs.Decided.{rows_differ}
use Rattle.cr_model.proofs.Deciding.{rows_differ_decided}
use Rattle.std.proofs.lemmas.List.{take-append-le, take-append-drop, take-take, take_all, length-take-le, get_or-take}
use Rattle.std.proofs.Math.Seq.{take-append_seam}
use Rattle.cr_row.specs.Rows.{Places}
use Rattle.cr_model.specs.Problems.{ProblemParts}
use Rattle.cr_model.specs.Callings.{changes_of, changes_of_all, rows_from, last_of, rows_of, length_of, head_of, AllDiffer}
use Rattle.cr_model.specs.Sizes.{child}
use Rattle.cr_model.proofs.Ringing.{rows_on, lengths_on, head_on}
use Rattle.cr_prune.proofs.Ringing.{length_rung}
use Rattle.cr_prune.specs.Holding.{AreFresh}

-- as many rows as changes
pub rows_counted : (p : ProblemParts) (calling : List ℕ) → length (rows_of p calling) ≡ length_of p calling
rows_counted p calling = length_rung _ (changes_of_all p calling)

-- the first rows are those of the first leads
pub first_rows : (p : ProblemParts) (calling : List ℕ) (n : ℕ) → take (length_of p (take n calling)) (rows_of p calling) ≡ rows_of p (take n calling)
first_rows p calling n =
    ap (λ c. take (length_of p (take n calling)) (rows_of p c)) (sym (take-append-drop n calling))
    ∙ ap (take (length_of p (take n calling))) (rows_on p (take n calling) (drop n calling))
    ∙ ap (λ k. take k (rows_of p (take n calling) ++ rows_from (head_of p (take n calling)) (changes_of_all p (drop n calling)))) (sym (rows_counted p (take n calling)))
    ∙ take-append_seam (rows_of p (take n calling)) (rows_from (head_of p (take n calling)) (changes_of_all p (drop n calling)))

-- no more of them
pub first_fewer : (p : ProblemParts) (calling : List ℕ) (n : ℕ) → length_of p (take n calling) ≤ length_of p calling
first_fewer p calling n =
    let whole : length_of p (take n calling ++ drop n calling) ≡ length_of p calling = ap (length_of p) (take-append-drop n calling) in
    omega (arith, whole, lengths_on p (take n calling) (drop n calling))

-- rows that all differ do so from the first on
pub differ_first : (rows : List (List ℕ)) (n : ℕ) → n ≤ length rows → AllDiffer rows → AllDiffer (take n rows)
differ_first rows n within differ i j low inside same =
    let long : length (take n rows) ≡ n = length-take-le n rows within in
    let j_in : j < n = omega (arith, inside, long) in
    let i_in : i < n = omega (arith, low, j_in) in
    differ i j low (omega (arith, j_in, within)) (sym (get_or-take n rows i [] i_in) ∙ same ∙ get_or-take n rows j [] j_in)

-- so do those of the first leads
pub leads_differ : (p : ProblemParts) (calling : List ℕ) (n : ℕ) → AllDiffer (rows_of p calling) → AllDiffer (rows_of p (take n calling))
leads_differ p calling n differ =
    subst AllDiffer (first_rows p calling n)
    (differ_first (rows_of p calling) (length_of p (take n calling)) (omega (arith, first_fewer p calling n, rows_counted p calling)) differ)

-- those of all leads
pub whole_differs : (p : ProblemParts) (node : List ℕ) (fresh : ℕ) → AreFresh p node fresh → fresh ≡ length node → AllDiffer (rows_of p node)
whole_differs p node fresh are all = subst (λ (calling : List ℕ). AllDiffer (rows_of p calling)) (take_all fresh node (omega (arith, all))) are.differ

-- one lead more
pub child_rows : (p : ProblemParts) (node : List ℕ) (step : ℕ) → rows_of p (child node step) ≡ rows_of p node ++ rows_from (head_of p node) (changes_of p step)
child_rows p node step = rows_on p node (step ∷ []) ∙ ap (λ changes. rows_of p node ++ rows_from (head_of p node) changes) (append-nil (changes_of p step))

pub child_head : (p : ProblemParts) (node : List ℕ) (step : ℕ) → head_of p (child node step) ≡ last_of (head_of p node) (rows_from (head_of p node) (changes_of p step))
child_head p node step = head_on p node (step ∷ []) ∙ ap (λ changes. last_of (head_of p node) (rows_from (head_of p node) changes)) (append-nil (changes_of p step))

pub child_length : (p : ProblemParts) (node : List ℕ) (step : ℕ) → length_of p (child node step) ≡ length_of p node + length (changes_of p step)
child_length p node step = lengths_on p node (step ∷ []) ∙ ap (λ changes. length_of p node + length changes) (append-nil (changes_of p step))

child_counted : (node : List ℕ) (step : ℕ) → length (child node step) ≡ length node + 1
child_counted node step = length-append node (step ∷ [])

pub child_before : (node : List ℕ) (step n : ℕ) → n ≤ length node → take n (child node step) ≡ take n node
child_before node step n within = take-append-le n node (step ∷ []) within

-- a lead that brings no row again
pub fresh_more : (p : ProblemParts) (node : List ℕ) (step fresh fresher : ℕ) → AreFresh p node fresh → fresher ≡ length node + 1 →
    AllDiffer (rows_of p (child node step)) → AreFresh p (child node step) fresher
fresh_more p node step fresh fresher are more differ =
    let counted = child_counted node step in
    record {
      within = omega (arith, counted, more);
      differ = subst (λ (calling : List ℕ). AllDiffer (rows_of p calling)) (sym (take_all fresher (child node step) (omega (arith, counted, more)))) differ;
      again = λ low. absurd (omega (arith, low, counted, more));
    }

-- one that brings a row again
pub fresh_again : (p : ProblemParts) (node : List ℕ) (step fresh : ℕ) → AreFresh p node fresh → fresh ≡ length node →
    (AllDiffer (rows_of p (child node step)) → ⊥) → AreFresh p (child node step) fresh
fresh_again p node step fresh are all again =
    let counted = child_counted node step in
    record {
      within = omega (arith, counted, all);
      differ = subst (λ (calling : List ℕ). AllDiffer (rows_of p calling)) (sym (child_before node step fresh are.within)) are.differ;
      again = λ low differ. again (subst (λ (calling : List ℕ). AllDiffer (rows_of p calling)) (take_all (fresh + 1) (child node step) (omega (arith, counted, all))) differ);
    }

-- one below a lead that brings a row again
pub fresh_below : (p : ProblemParts) (node : List ℕ) (step fresh : ℕ) → AreFresh p node fresh → (fresh ≡ length node → ⊥) → AreFresh p (child node step) fresh
fresh_below p node step fresh are some =
    let counted = child_counted node step in
    let low : fresh < length node = omega (arith, are.within, some) in
    record {
      within = omega (arith, counted, low);
      differ = subst (λ (calling : List ℕ). AllDiffer (rows_of p calling)) (sym (child_before node step fresh are.within)) are.differ;
      again = λ _ differ. are.again low (subst (λ (calling : List ℕ). AllDiffer (rows_of p calling)) (child_before node step (fresh + 1) (omega (arith, low))) differ);
    }

-- one lead less: where it brought no row again, and where one before it or it did
pub fresh_less : (p : ProblemParts) (node : List ℕ) (fresh left : ℕ) → AreFresh p node fresh → fresh ≡ length node → left ≡ length node - 1 → AreFresh p (take left node) left
fresh_less p node fresh left are all less =
    let counted : length (take left node) ≡ left = length-take-le left node (omega (arith, less)) in
    record {
      within = omega (arith, counted);
      differ = subst (λ (calling : List ℕ). AllDiffer (rows_of p calling)) (sym (take_all left (take left node) (omega (arith, counted)))) (leads_differ p node left (whole_differs p node fresh are all));
      again = λ low. absurd (omega (arith, low, counted));
    }

pub fresh_stays : (p : ProblemParts) (node : List ℕ) (fresh left : ℕ) → AreFresh p node fresh → (fresh ≡ length node → ⊥) → left ≡ length node - 1 → AreFresh p (take left node) fresh
fresh_stays p node fresh left are some less =
    let low : fresh < length node = omega (arith, are.within, some) in
    let counted : length (take left node) ≡ left = length-take-le left node (omega (arith, less)) in
    record {
      within = omega (arith, counted, low, less);
      differ = subst (λ (calling : List ℕ). AllDiffer (rows_of p calling)) (sym (take-take fresh left node (omega (arith, low, less)))) are.differ;
      again = λ lower differ. are.again low (subst (λ (calling : List ℕ). AllDiffer (rows_of p calling)) (take-take (fresh + 1) left node (omega (arith, lower, counted))) differ);
    }

-- a node brings a row again exactly where not all of its leads are fresh
pub not_fresh : (p : ProblemParts) (node : List ℕ) (fresh : ℕ) → AreFresh p node fresh → (fresh ≡ length node → ⊥) → AllDiffer (rows_of p node) → ⊥
not_fresh p node fresh are some differ = are.again (omega (arith, are.within, some)) (leads_differ p node (fresh + 1) differ)

pub all_fresh : (p : ProblemParts) (node : List ℕ) (fresh : ℕ) → AreFresh p node fresh → AllDiffer (rows_of p node) → take fresh node ≡ node
all_fresh p node fresh are differ = elim (cases_eq fresh (length node)) [
  | inl all ↦ take_all fresh node (omega (arith, all))
  | inr some ↦ absurd (not_fresh p node fresh are some differ)
]

pub repeat_told : (p : ProblemParts) (node : List ℕ) (fresh leads : ℕ) → AreFresh p node fresh → leads ≡ length node → not (nat_eq fresh leads) ≡ not (rows_differ (rows_of p node))
repeat_told p node fresh leads are all = elim (eqb_tells fresh leads) [
  | inl e ↦
      let differ : rows_differ (rows_of p node) ≡ true = (rows_differ_decided (rows_of p node)).1 (whole_differs p node fresh are (e.1 ∙ all)) in
      ap not (e.0 ∙ sym differ)
  | inr e ↦
      let again : rows_differ (rows_of p node) ≡ false =
      false_from_ne_true (rows_differ (rows_of p node)) (λ same. not_fresh p node fresh are (λ whole. e.1 (whole ∙ sym all)) ((rows_differ_decided (rows_of p node)).0 same)) in
      ap not (e.0 ∙ sym again)
]

-- one lead rung from one row
pub same_lead : (from head : List ℕ) (changes lead : List Places) → from ≡ head → changes ≡ lead → rows_from from changes ≡ rows_from head lead
same_lead from head changes lead begin is = ap (λ row. rows_from row changes) begin ∙ ap (rows_from head) is

pub same_last : (from head : List ℕ) (changes lead : List Places) → from ≡ head → changes ≡ lead → last_of from (rows_from from changes) ≡ last_of head (rows_from head lead)
same_last from head changes lead begin is = ap (λ row. last_of row (rows_from row changes)) begin ∙ ap (λ cs. last_of head (rows_from head cs)) is
