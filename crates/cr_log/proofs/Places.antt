-- What is known of a node whose rows stand on a stack.
use Rattle.std.proofs.Common.{◌≡◌, ℕ, ◌+◌, ◌<◌, ◌≤◌, true, false, ◌&&◌, ◌||◌, nat_lt, nat_le, List, [], ◌∷◌, length, get_or, All, Contains, inl, inr, ap, sym, ◌∙◌, subst, arith}
use Rattle.std.specs.Prelude.{nat_eq, Some}
use Rattle.std.specs.Cmp.Lexicographic.{pointwise}
use Rattle.std.proofs.lemmas.Bool.{true≢false, and_from, and_parts, ltb-true, lt-ltb, cases_order, false_from_ne_true, le-ltb, le-leb}
use Rattle.std.proofs.lemmas.List.{get_or_default}
use Rattle.std.proofs.lemmas.List.Elements.{All-nil, All-cons, All-weaker}
use Rattle.std.proofs.lemmas.Slice.Eq.{bytes_eq-Decides}
use Rattle.cr_row.specs.Rows.{Places, IsRow, rounds, after}
use Rattle.cr_row.proofs.ChangeLaws.{length-changed}
use Rattle.cr_row.proofs.RowLaws.{length-rounds}
use Rattle.cr_model.specs.Problems.{ProblemParts}
use Rattle.cr_model.specs.Callings.{rows_from, last_of, rows_of, length_of, changes_of_all, AllDiffer}
use Rattle.cr_model.specs.Queries.{part_cap}
use Rattle.cr_model.specs.Dead.{parts_of, is_long}
use Rattle.cr_model.specs.Decided.{has_steps}
use Rattle.cr_model.proofs.Deciding.{has_steps_decided}
use Rattle.cr_leads.specs.Tables.{TableParts, lead_table, IsLead}
use Rattle.cr_leads.proofs.LastRows.{last_holds}
use Rattle.cr_rowset.specs.Stacks.{StackParts}
use Rattle.cr_rowset.specs.Pushing.{StandsAt}
use Rattle.cr_audit.specs.Verdicts.{is_valid, row_at, is_again_at, is_round_at}
use Rattle.cr_log.specs.FirstVerdicts.{IsLeast}
use Rattle.cr_log.specs.Logging.{IsAt}
use Rattle.cr_log.proofs.RungLeads.{as_many}

-- how many rows there are
pub rows_number : (p : ProblemParts) (node : List ℕ) (stack : StackParts) → IsAt p node stack → length stack.rows ≡ length_of p node
rows_number p node stack at = ap length at.rows ∙ as_many p node

pub rows_few : (p : ProblemParts) (node : List ℕ) (stack : StackParts) → IsAt p node stack → length stack.rows ≤ part_cap p
rows_few p node stack at = omega (arith, rows_number p node stack at, at.valid.short)

-- how long they are
rung_long : (row : List ℕ) (changes : List Places) → All (λ next. length next ≡ length row) (rows_from row changes)
rung_long row [] = All-nil (λ next. length next ≡ length row)
rung_long row (change ∷ changes) =
    let same : length (after change row) ≡ length row = length-changed change.made 1 row in
    All-cons (λ next. length next ≡ length row) (after change row) (rows_from (after change row) changes) same
    (All-weaker (λ next. length next ≡ length (after change row)) (λ next. length next ≡ length row) (λ next h. h ∙ same) (rows_from (after change row) changes) (rung_long (after change row) changes))

pub rows_long : (p : ProblemParts) (node : List ℕ) (stack : StackParts) → IsAt p node stack → All (λ row. length row ≡ p.stage) stack.rows
rows_long p node stack at =
    subst (All (λ row. length row ≡ p.stage)) (sym at.rows)
    (All-weaker (λ row. length row ≡ length (rounds p.stage)) (λ row. length row ≡ p.stage) (λ row h. h ∙ length-rounds p.stage) (rows_of p node) (rung_long (rounds p.stage) (changes_of_all p node)))

pub head_long : (p : ProblemParts) (node : List ℕ) (stack : StackParts) → IsAt p node stack → (head : List ℕ) → head ≡ last_of (rounds p.stage) stack.rows → length head ≡ p.stage
head_long p node stack at head is = ap length is ∙ last_holds (λ row. length row ≡ p.stage) (rounds p.stage) stack.rows (length-rounds p.stage) (rows_long p node stack at)

pub lead_long : (p : ProblemParts) (table : TableParts) (head : List ℕ) (lead : List (List ℕ)) → table ≡ lead_table p → IsLead table.stage lead → length head ≡ p.stage → All (λ row. length row ≡ length head) lead
lead_long p table head lead is rows long =
    All-weaker (λ row. IsRow row × (length row ≡ table.stage)) (λ row. length row ≡ length head) (λ row h. h.1 ∙ ap (λ (t : TableParts). t.stage) is ∙ sym long) lead rows.are_rows

-- its tests
pub not_long : (p : ProblemParts) (node : List ℕ) (stack : StackParts) → IsAt p node stack → is_long p node ≡ false
not_long p node stack at = le-ltb (part_cap p) (length_of p node) at.valid.short

pub tests_valid : (p : ProblemParts) (node : List ℕ) (stack : StackParts) → IsAt p node stack → is_valid p node ≡ true
tests_valid p node stack at =
    and_from (has_steps p node) (nat_le (length_of p node) (part_cap p)) ((has_steps_decided p node).1 at.valid.steps) (le-leb (length_of p node) (part_cap p) at.valid.short)

module _ (p : ProblemParts) (node : List ℕ) (stack : StackParts) (at : IsAt p node stack) where
  row_is : (k : ℕ) → row_at p node k ≡ get_or stack.rows k []
  row_is k = ap (λ (l : List (List ℕ)). get_or l k []) (sym at.rows)

  -- no row comes again
  pub none_again : AllDiffer stack.rows → (i j : ℕ) → is_again_at p node i j ≡ false
  none_again differ i j = false_from_ne_true (is_again_at p node i j) (λ h.
      let (before, rest) = and_parts (nat_lt i j) (nat_lt j (length_of p node) && pointwise nat_eq (row_at p node i) (row_at p node j)) h in
      let (inside, same) = and_parts (nat_lt j (length_of p node)) (pointwise nat_eq (row_at p node i) (row_at p node j)) rest in
      let last : j < length_of p node = ltb-true j (length_of p node) inside in
      differ i j (ltb-true i j before) (omega (arith, rows_number p node stack at))
      (sym (row_is i) ∙ (bytes_eq-Decides (row_at p node i) (row_at p node j)).0 same ∙ row_is j))

  -- rounds at a place
  round_at : (k : ℕ) → is_round_at p node k ≡ true → (k < length stack.rows) × (get_or stack.rows k [] ≡ rounds p.stage) × ((nat_lt (k + 1) (length_of p node) || nat_lt 1 (parts_of p)) ≡ true)
  round_at k h =
      let (inside, more) = and_parts (nat_lt k (length_of p node)) (pointwise nat_eq (row_at p node k) (rounds p.stage) && (nat_lt (k + 1) (length_of p node) || nat_lt 1 (parts_of p))) h in
      let (same, early) = and_parts (pointwise nat_eq (row_at p node k) (rounds p.stage)) (nat_lt (k + 1) (length_of p node) || nat_lt 1 (parts_of p)) more in
      let last : k < length_of p node = ltb-true k (length_of p node) inside in (
        omega (arith, rows_number p node stack at),
        sym (row_is k) ∙ (bytes_eq-Decides (row_at p node k) (rounds p.stage)).0 same,
        early,
      )

  -- it stands nowhere
  pub never_round : (Contains stack.rows (rounds p.stage) → ⊥) → (k : ℕ) → is_round_at p node k ≡ false
  never_round none k = false_from_ne_true (is_round_at p node k) (λ h.
      let (inside, is, early) = round_at k h in
      none (k, inside, get_or_default stack.rows k (rounds p.stage) [] inside ∙ is))

  module _ (differ : AllDiffer stack.rows) (place : ℕ) (stands : StandsAt stack.rows (rounds p.stage) place) where
    -- it stands at one place
    one_place : (k : ℕ) → is_round_at p node k ≡ true → k ≡ place
    one_place k h =
        let (inside, is, early) = round_at k h in
        elim (cases_order k place) [
          | inl same ↦ same
          | inr other ↦ elim other [
            | inl less ↦ absurd (differ k place less stands.within (is ∙ sym stands.is))
            | inr more ↦ absurd (differ place k more inside (stands.is ∙ sym is))
          ]
        ]

    pub round_early : (nat_lt (place + 1) (length stack.rows) || nat_lt 1 (parts_of p)) ≡ true → IsLeast (is_round_at p node) (Some place)
    round_early early = (
      and_from (nat_lt place (length_of p node)) (pointwise nat_eq (row_at p node place) (rounds p.stage) && (nat_lt (place + 1) (length_of p node) || nat_lt 1 (parts_of p)))
          (lt-ltb place (length_of p node) (omega (arith, rows_number p node stack at, stands.within)))
          (and_from (pointwise nat_eq (row_at p node place) (rounds p.stage)) (nat_lt (place + 1) (length_of p node) || nat_lt 1 (parts_of p))
          ((bytes_eq-Decides (row_at p node place) (rounds p.stage)).1 (row_is place ∙ stands.is))
          (ap (λ (n : ℕ). nat_lt (place + 1) n || nat_lt 1 (parts_of p)) (sym (rows_number p node stack at)) ∙ early)),
      λ k less. false_from_ne_true (is_round_at p node k) (λ h.
          let same : k ≡ place = one_place k h in
          let below : k < place = ltb-true k place less in
          omega arith),
    )

    pub round_late : (nat_lt (place + 1) (length stack.rows) || nat_lt 1 (parts_of p)) ≡ false → (k : ℕ) → is_round_at p node k ≡ false
    round_late late k = false_from_ne_true (is_round_at p node k) (λ h.
        let (inside, is, early) = round_at k h in
        true≢false (sym (subst (λ (n : ℕ). (nat_lt (n + 1) (length_of p node) || nat_lt 1 (parts_of p)) ≡ true) (one_place k h) early)
        ∙ ap (λ (n : ℕ). nat_lt (place + 1) n || nat_lt 1 (parts_of p)) (sym (rows_number p node stack at)) ∙ late))
