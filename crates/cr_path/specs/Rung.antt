-- Leads that are rung from all heads, with a number for each of the rows that tell them.
use Rattle.std.specs.Prelude.{◌≡◌, ℕ, ◌+◌, ◌-◌, ◌*◌, ◌<◌, ◌≤◌, not, cond, nat_lt, List, [], ◌∷◌, ◌++◌, length, get_or, map, take, drop, All}
use Rattle.cr_row.specs.Rows.{rounds, product}
use Rattle.cr_model.specs.Problems.{ProblemParts}
use Rattle.cr_model.specs.Callings.{lead_length, head_of, HasSteps}
use Rattle.cr_model.specs.Dead.{has_rounds}
use Rattle.cr_rowset.specs.Stacks.{AllDiffer}
use Rattle.cr_path.specs.Numbers.{lead_from, head_after, dies_after}
use Rattle.cr_path.specs.declared.numbers.rung_leads.RungLead.{RungLead}

-- the number of steps; the heads and the rows, each at its number; a record of each lead, of the first head's steps first; and the numbers of the rows that tell all leads
pub record RungParts : Type 0 where
  pub steps : ℕ
  pub heads : List (List ℕ)
  pub rows : List (List ℕ)
  pub records : List RungLead
  pub numbers : List ℕ

-- the numbers of the rows that tell a lead, and these rows
abbrev pub rung_numbers : List ℕ → RungLead → List ℕ
rung_numbers numbers lead = take (lead.end - lead.start) (drop lead.start numbers)

abbrev pub rung_rows : RungParts → RungLead → List (List ℕ)
rung_rows t lead = map (λ number. get_or t.rows number []) (rung_numbers t.numbers lead)

-- a lead has one number or more, and they stand among so many
abbrev pub IsHeld : ℕ → RungLead → Type 0
IsHeld long lead = (lead.start < lead.end) × (lead.end ≤ long)

-- the rows by which a lead is told that is rung from a head: some of its rows, given as rung from rounds, and rounds where it is one of all
abbrev pub told_from : ProblemParts → List (List (List ℕ)) → List ℕ → ℕ → List (List ℕ)
told_from p told head step = map (product head) (get_or told step []) ++ cond (has_rounds p (lead_from p head step)) (rounds p.stage ∷ []) []

-- a row is the head of some steps
pub record IsReached (p : ProblemParts) (head : List ℕ) : Type 0 where
  pub calling : List ℕ
  pub steps : HasSteps p calling
  pub is : head ≡ head_of p calling

-- a record of a step that is rung from a head: the head that it leads to, the length below which it may live, its number of changes, and the numbers of the rows that tell it
pub record IsRungLead (p : ProblemParts) (told : List (List (List ℕ))) (t : RungParts) (head : List ℕ) (step : ℕ) (lead : RungLead) : Type 0 where
  pub next : lead.next < length t.heads
  pub leads_to : get_or t.heads lead.next [] ≡ head_after p head step
  pub limit : (rung : ℕ) → nat_lt rung lead.limit ≡ not (dies_after p head step rung)
  pub long : lead.length ≡ lead_length p step
  pub held : IsHeld (length t.numbers) lead
  pub are : rung_rows t lead ≡ told_from p told head step

-- they are rung from all heads of a problem: rounds is the first head and the first row
pub record IsRung (p : ProblemParts) (told : List (List (List ℕ))) (t : RungParts) : Type 0 where
  pub counted : t.steps ≡ length p.leads
  pub some_head : 0 < length t.heads
  pub first_head : get_or t.heads 0 [] ≡ rounds p.stage
  pub staged : All (λ head. length head ≡ p.stage) t.heads
  pub reached : All (IsReached p) t.heads
  pub some_row : 0 < length t.rows
  pub first_row : get_or t.rows 0 [] ≡ rounds p.stage
  pub differ : AllDiffer t.rows
  pub within : All (λ number. number < length t.rows) t.numbers
  pub recorded : length t.records ≡ length t.heads * t.steps
  pub held : All (IsHeld (length t.numbers)) t.records
  pub each : (head step : ℕ) (d : RungLead) → head < length t.heads → step < t.steps
      → IsRungLead p told t (get_or t.heads head []) step (get_or t.records (head * t.steps + step) d)
