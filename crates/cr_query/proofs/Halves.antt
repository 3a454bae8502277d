-- The two halves of meeting a query.
use Rattle.std.proofs.Common.{◌≡◌, ◌↔◌, ℕ, Bool, List, length, IsTrue, sym, ap, ◌∙◌, subst}
use Rattle.std.specs.List.{All}
use Rattle.std.proofs.lemmas.List.Elements.{All-weaker}
use Rattle.cr_row.specs.Rows.{IsRow}
use Rattle.cr_leads.specs.Tables.{TableParts, lead_table, AreRows}
use Rattle.cr_model.specs.Problems.{ProblemParts}
use Rattle.cr_model.specs.Callings.{rows_of, HasSteps, TrueTouch}
use Rattle.cr_model.specs.Queries.{Meets}
use Rattle.cr_model.specs.Touches.{Wanted}
use Rattle.cr_query.specs.Meeting.{MeetsByLeads, MeetsByRows, meets_both}

-- where the leads meet the query, the rows tell the rest
pub both_halves : (p : ProblemParts) (calling : List ℕ) (rows : List (List ℕ)) (met : Bool) → rows ≡ rows_of p calling
    → MeetsByLeads p calling → (IsTrue met ↔ MeetsByRows p rows) → IsTrue met ↔ Meets p calling
both_halves p calling rows met is leads told = (
  λ yes'. meets_both p calling leads (subst (MeetsByRows p) is (told.0 yes')),
  λ meets. told.1 (subst (MeetsByRows p) (sym is) meets.patterns),
)

-- and with a true touch, whether it is wanted
pub wanted_halves : (p : ProblemParts) (calling : List ℕ) (rows : List (List ℕ)) (met : Bool) → rows ≡ rows_of p calling
    → HasSteps p calling → TrueTouch p calling
    → MeetsByLeads p calling → (IsTrue met ↔ MeetsByRows p rows) → IsTrue met ↔ Wanted p calling
wanted_halves p calling rows met is steps touch leads told =
    let both = both_halves p calling rows met is leads told in (
      λ yes'. record { steps = steps; touch = touch; meets = both.0 yes' },
      λ wanted. both.1 wanted.meets,
    )

-- rows of the table's stage are of the problem's
pub stage_rows : (table : TableParts) (p : ProblemParts) (rows rung : List (List ℕ)) → table ≡ lead_table p → rows ≡ rung → AreRows table.stage rung
    → All (λ row. length row ≡ p.stage) rows
stage_rows table p rows rung is same all =
    subst (All (λ row. length row ≡ p.stage)) (sym same)
    (All-weaker (λ row. IsRow row × (length row ≡ table.stage)) (λ row. length row ≡ p.stage) (λ row h. h.1 ∙ ap (λ (t : TableParts). t.stage) is) rung all)
