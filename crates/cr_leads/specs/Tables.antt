-- Lead tables, as contracts see them: the stage, and of each step the rows that it has when it is rung alone.
use Rattle.std.specs.Prelude.{◌≡◌, ℕ, ◌<◌, ◌≤◌, List, [], ◌∷◌, length, get_or, map, All}
use Rattle.std.specs.List.{range_with_len}
use Rattle.std.proofs.Common.{sym, ap, ◌∙◌, subst, arith}
use Rattle.std.proofs.lemmas.List.FromFn.{get_or-map-range_with_len, length-map-range_with_len}
use Rattle.cr_row.specs.Rows.{IsRow, rounds}
use Rattle.cr_model.specs.Problems.{ProblemParts}
use Rattle.cr_model.specs.Callings.{last_of, rows_of, head_of, HasSteps}
use Rattle.cr_model.specs.Limits.{most_steps, most_lead_changes}

pub record TableParts : Type 0 where
  pub stage : ℕ
  pub leads : List (List (List ℕ))

abbrev pub table_from : ℕ → List (List (List ℕ)) → TableParts
table_from stage leads = record { stage = stage; leads = leads }

-- the table of a problem
abbrev pub lead_table : ProblemParts → TableParts
lead_table p = table_from p.stage (map (λ step. rows_of p (step ∷ [])) (range_with_len 0 (length p.leads)))

-- the rows of a step, and the last of them
abbrev pub lead_rows : TableParts → ℕ → List (List ℕ)
lead_rows table step = get_or table.leads step []

abbrev pub lead_head : TableParts → ℕ → List ℕ
lead_head table step = last_of (rounds table.stage) (lead_rows table step)

-- the calling has steps of the table alone
abbrev pub HasLeads : TableParts → List ℕ → Type 0
HasLeads table calling = All (λ step. step < length table.leads) calling

-- rows of the stage, and nothing else
abbrev pub AreRows : ℕ → List (List ℕ) → Type 0
AreRows stage rows = All (λ row. IsRow row × (length row ≡ stage)) rows

-- rows of one stage, whichever
abbrev pub HaveOneStage : List (List ℕ) → Type 0
HaveOneStage rows = (stage : ℕ) × (stage ≤ 16) × AreRows stage rows

-- the rows of a lead
pub record IsLead (stage : ℕ) (rows : List (List ℕ)) : Type 0 where
  pub some : 1 ≤ length rows
  pub few : length rows ≤ most_lead_changes
  pub are_rows : AreRows stage rows

-- what holds of every table
pub record IsTable (table : TableParts) : Type 0 where
  pub from : 3 ≤ table.stage
  pub to : table.stage ≤ 16
  pub few : length table.leads ≤ most_steps
  pub leads : All (IsLead table.stage) table.leads

-- a problem has as many steps as its table
pub leads_counted : (table : TableParts) (p : ProblemParts) → table ≡ lead_table p → length table.leads ≡ length p.leads
leads_counted table p is =
    ap (λ (t : TableParts). length t.leads) is
    ∙ length-map-range_with_len (λ step. rows_of p (step ∷ [])) 0 (length p.leads)

-- and the same steps
pub leads_known : (table : TableParts) (p : ProblemParts) (calling : List ℕ) → table ≡ lead_table p
    → HasSteps p calling → HasLeads table calling
leads_known table p calling is known =
    λ k d within. subst (λ n. get_or calling k d < n) (sym (leads_counted table p is)) (known k d within)

pub steps_known : (table : TableParts) (p : ProblemParts) (calling : List ℕ) → table ≡ lead_table p
    → HasLeads table calling → HasSteps p calling
steps_known table p calling is known =
    λ k d within. subst (λ n. get_or calling k d < n) (leads_counted table p is) (known k d within)

-- the rows and the head of a step, in its problem's table
pub rows_of_step : (table : TableParts) (p : ProblemParts) (step : ℕ) → table ≡ lead_table p
    → step < length table.leads → lead_rows table step ≡ rows_of p (step ∷ [])
rows_of_step table p step is known =
    let within : step < length p.leads = subst (λ n. step < n) (leads_counted table p is) known in
    ap (λ (t : TableParts). lead_rows t step) is
    ∙ get_or-map-range_with_len (λ step. rows_of p (step ∷ [])) 0 (length p.leads) step step [] within (omega arith)

pub head_of_step : (table : TableParts) (p : ProblemParts) (step : ℕ) → table ≡ lead_table p
    → step < length table.leads → lead_head table step ≡ head_of p (step ∷ [])
head_of_step table p step is known =
    ap (λ (t : TableParts). last_of (rounds t.stage) (lead_rows table step)) is
    ∙ ap (last_of (rounds p.stage)) (rows_of_step table p step is known)
