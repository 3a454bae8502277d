-- Rows of leads by which the leads are told apart, and the rows that may lie between two heads.
use Rattle.std.specs.Prelude.{◌≡◌, ℕ, ◌+◌, ◌-◌, ◌%◌, ◌<◌, ◌≤◌, Bool, true, cond, nat_lt, List, [], ◌∷◌, length, get_or, All, Contains}
use Rattle.cr_row.specs.Rows.{product}
use Rattle.cr_leads.specs.Tables.{TableParts, lead_rows, lead_head}
use Rattle.cr_false.specs.Sets.{IsFalse, HasTwice}

-- how many of some bells are lower than one
abbrev pub lower : ℕ → List ℕ → ℕ
lower bell [] = 0
lower bell (other ∷ bells) = cond {A = ℕ} (nat_lt other bell) 1 0 + lower bell bells

-- how many pairs of a row's bells stand in falling order
abbrev pub falling : List ℕ → ℕ
falling [] = 0
falling (bell ∷ bells) = lower bell bells + falling bells

-- a row is even where an even number of its pairs do
abbrev pub IsEven : List ℕ → Type 0
IsEven row = falling row % 2 ≡ 0

-- a bell stands at home: at the place of its own number
abbrev pub IsHome : ℕ → List ℕ → Type 0
IsHome bell row = get_or row (bell - 1) 0 ≡ bell

-- every lead head of a table has it
abbrev pub AllHeads : (List ℕ → Type 0) → TableParts → Type 0
AllHeads Has table = (step : ℕ) → step < length table.leads → Has (lead_head table step)

-- a row may lie between two heads: each bell that stands at home in every lead head stands at home in it, and where
-- all lead heads are even, so is it
pub record MayLieBetween (table : TableParts) (between : List ℕ) : Type 0 where
  pub home : (bell : ℕ) → 0 < bell → bell ≤ table.stage → AllHeads (IsHome bell) table → IsHome bell between
  pub even : AllHeads IsEven table → IsEven between

-- rows of two leads tell them apart as all of their rows do, whatever lies between the heads
abbrev pub TellsApart : TableParts → List (List ℕ) → List (List ℕ) → List (List ℕ) → List (List ℕ) → Type 0
TellsApart table rows others told told_others =
    (between : List ℕ) → length between ≡ table.stage → MayLieBetween table between → IsFalse rows others between → IsFalse told told_others between

-- some of these rows, each at most as often
pub record AreSome (rows told : List (List ℕ)) : Type 0 where
  pub has : (row : List ℕ) → Contains told row → Contains rows row
  pub few : length told ≤ length rows
  pub twice : HasTwice told → HasTwice rows

-- of each step some rows of its lead
pub record AreOfLeads (table : TableParts) (told : List (List (List ℕ))) : Type 0 where
  pub counted : length told ≡ length table.leads
  pub some : (step : ℕ) → step < length table.leads → AreSome (lead_rows table step) (get_or told step [])

-- a step's lead is told from all leads by these rows, and has a row twice only where it has one of these twice
pub record IsTold (table : TableParts) (told : List (List (List ℕ))) (step : ℕ) : Type 0 where
  pub apart : (other : ℕ) → other < length table.leads → TellsApart table (lead_rows table step) (lead_rows table other) (get_or told step []) (get_or told other [])
  pub twice : HasTwice (lead_rows table step) → HasTwice (get_or told step [])

-- of each step rows of its lead by which all leads are told apart: two of them have a row in common only where they have
-- one of these in common, and a lead has a row twice only where it has one of these twice
pub record AreTelling (table : TableParts) (told : List (List (List ℕ))) : Type 0 where
  pub of_leads : AreOfLeads table told
  pub each : (step : ℕ) → step < length table.leads → IsTold table told step

-- what all lead heads have in common: these bells stand at home, and all are even
pub record AreCommon (table : TableParts) (bells : List ℕ) (even : Bool) : Type 0 where
  pub from : All (λ bell. 0 < bell) bells
  pub to : All (λ bell. bell ≤ table.stage) bells
  pub home : All (λ bell. AllHeads (IsHome bell) table) bells
  pub all_even : even ≡ true → AllHeads IsEven table

-- a set has each row that is false of some rows and another, if it may lie between heads with this in common
abbrev pub HasFalse : List (List ℕ) → List (List ℕ) → List ℕ → List ℕ → Bool → Type 0
HasFalse set rows other bells even =
    (table : TableParts) (between : List ℕ) → AreCommon table bells even → length other ≡ table.stage → length between ≡ table.stage
    → MayLieBetween table between → Contains rows (product between other) → Contains set between
