-- Rows that stand for others.
use Rattle.std.specs.Prelude.{◌≡◌, ℕ, ◌<◌, true, nat_eq, List, length, get_or, All}
use Rattle.std.specs.List.{list_any}
use Rattle.cr_path.specs.Rung.{rung_numbers}
use Rattle.cr_path.specs.declared.numbers.rung_leads.RungLead.{RungLead}

-- a row covers itself
abbrev pub CoversItself : List ℕ → ℕ → Type 0
CoversItself cover row = (row < length cover) × (get_or cover row 0 ≡ row)

-- what covers a row stands in a lead
abbrev pub IsCovered : List ℕ → List ℕ → ℕ → Type 0
IsCovered cover lead row = (row < length cover) × (list_any (nat_eq (get_or cover row 0)) lead ≡ true)

-- so it is of each row of the lead
abbrev pub StaysWithin : List ℕ → List ℕ → Type 0
StaysWithin cover lead = All (IsCovered cover lead) lead

-- rows are covered: wherever a row stands, the one that covers it does too, and covers itself. The first row covers itself
pub record IsCover (rows : ℕ) (numbers : List ℕ) (leads : List RungLead) (cover : List ℕ) : Type 0 where
  pub long : length cover ≡ rows
  pub first : CoversItself cover 0
  pub themselves : All (CoversItself cover) cover
  pub stays : All (λ lead. StaysWithin cover (rung_numbers numbers lead)) leads
