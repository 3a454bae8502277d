-- True touches, by what ringing tells.
use Rattle.std.proofs.Common.{◌≡◌, ◌≢◌, ℕ, ◌+◌, ◌≤◌, ◌↔◌, List, [], ◌∷◌, length, get_or, true, refl, sym, ap, ◌∙◌, subst, arith, length-append}
use Rattle.std.specs.List.{All}
use Rattle.std.proofs.lemmas.List.Elements.{All-head}
use Rattle.cr_row.specs.Rows.{rounds}
use Rattle.cr_model.specs.Problems.{ProblemParts}
use Rattle.cr_model.specs.Callings.{changes_of, changes_of_all, lead_length, last_of, rows_of, HasSteps, AllDiffer, TrueTouch}
use Rattle.cr_model.specs.Sound.{IsSound, sound_leads}
use Rattle.cr_leads.specs.Tables.{TableParts, lead_table, lead_rows, HasLeads, IsTable, rows_of_step}
use Rattle.cr_leads.specs.Rungs.{ComesRound, IsRung}
use Rattle.cr_leads.specs.declared.rung.Rung.{Rung}
use Rattle.cr_leads.proofs.LastRows.{some_rows}
use Rattle.cr_leads.proofs.SoundTables.{length_rung, rows_of_one}

-- each lead of the calling has a change
abbrev HaveChanges : ProblemParts → List ℕ → Type 0
HaveChanges p calling = All (λ step. 1 ≤ lead_length p step) calling

-- so some steps have some rows
steps_have_rows : (p : ProblemParts) (calling : List ℕ) → HaveChanges p calling → calling ≢ [] → rows_of p calling ≢ []
steps_have_rows p [] all some = absurd (some refl)
steps_have_rows p (step ∷ steps) all some =
    let first : 1 ≤ lead_length p step = All-head (λ s. 1 ≤ lead_length p s) step steps all in
    let long : length (changes_of_all p (step ∷ steps)) ≡ lead_length p step + length (changes_of_all p steps) =
    length-append (changes_of p step) (changes_of_all p steps) in
    let rung : length (rows_of p (step ∷ steps)) ≡ length (changes_of_all p (step ∷ steps)) =
    length_rung (rounds p.stage) (changes_of_all p (step ∷ steps)) in
    some_rows (rows_of p (step ∷ steps)) (omega (arith, first, long, rung))

true_touch : (p : ProblemParts) (calling : List ℕ) → HaveChanges p calling
    → TrueTouch p calling ↔ (ComesRound p calling × AllDiffer (rows_of p calling))
true_touch p calling all = (
  λ touch. (record { some = steps_have_rows p calling all touch.some; last = touch.round }, touch.differ),
  λ told. record {
    some = λ none. told.0.some (ap (rows_of p) none);
    round = told.0.last;
    differ = told.1;
  },
)

-- the steps of a problem have changes
pub sound_touch : (p : ProblemParts) (calling : List ℕ) → IsSound p → HasSteps p calling
    → TrueTouch p calling ↔ (ComesRound p calling × AllDiffer (rows_of p calling))
sound_touch p calling sound known = true_touch p calling (λ k d within. ((sound_leads p sound).each (get_or calling k d) (known k d within)).changes.some)

-- and so do those of a table
table_changes : (table : TableParts) (p : ProblemParts) (calling : List ℕ) → IsTable table
    → table ≡ lead_table p → HasLeads table calling → HaveChanges p calling
table_changes table p calling right is known = λ k d within.
    let step = get_or calling k d in
    let some : 1 ≤ length (lead_rows table step) = (right.leads step [] (known k d within)).some in
    let long : length (lead_rows table step) ≡ lead_length p step =
    ap length (rows_of_step table p step is (known k d within)) ∙ ap length (rows_of_one p step) ∙ length_rung (rounds p.stage) (changes_of p step) in
    omega (arith, some, long)

-- what is told of rows that are the calling's
pub told : (table : TableParts) (p : ProblemParts) (calling : List ℕ) (rung : Rung) → IsTable table
    → table ≡ lead_table p → HasLeads table calling
    → rung.rows.items ≡ rows_of p calling
    → ((rung.round ≡ true) ↔ ((rung.rows.items ≢ []) × (last_of (rounds table.stage) rung.rows.items ≡ rounds table.stage)))
    → ((rung.distinct ≡ true) ↔ AllDiffer rung.rows.items)
    → IsRung p calling rung
told table p calling rung right table_is known is round distinct =
    let comes : (rung.round ≡ true) ↔ ComesRound p calling = (
      λ h. record {
        some = λ none. (round.0 h).0 (is ∙ none);
        last = rw (is, table_is) at (round.0 h).1;
      },
      λ h. round.1 (λ none. h.some (sym is ∙ none), rw (is, table_is) h.last),
    ) in
    let differ : (rung.distinct ≡ true) ↔ AllDiffer (rows_of p calling) =
    subst (λ rows. (rung.distinct ≡ true) ↔ AllDiffer rows) is distinct in
    let touch = true_touch p calling (table_changes table p calling right table_is known) in
    record {
      rows = is;
      round = comes;
      distinct = differ;
      touch = (λ t. (comes.1 (touch.0 t).0, differ.1 (touch.0 t).1), λ b. touch.1 (comes.0 b.0, differ.0 b.1));
    }
