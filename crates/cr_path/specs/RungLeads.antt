-- Rows that get numbers.
use Rattle.std.specs.Prelude.{◌≡◌, ◌⊎◌, ℕ, ◌+◌, ◌*◌, ◌<◌, ◌≤◌, List, [], ◌∷◌, ◌++◌, length, get_or, map, All}
use Rattle.cr_row.specs.Rows.{rounds}
use Rattle.cr_model.specs.Problems.{ProblemParts}
use Rattle.cr_rowset.specs.Stacks.{AllDiffer}
use Rattle.cr_rowset.specs.Pushing.{StandsAt}
use Rattle.cr_path.specs.Rung.{RungParts, IsHeld, IsReached, IsRungLead}
use Rattle.cr_path.specs.declared.numbers.rung_leads.RungLead.{RungLead}

-- rows that stay at their places, where others may come after them
pub record IsKept (old new : List (List ℕ)) : Type 0 where
  pub long : length old ≤ length new
  pub same : (i : ℕ) → i < length old → get_or new i [] ≡ get_or old i []

-- a row has a number now: it had it before, or is new and last
pub record HasNumber (old : List (List ℕ)) (row : List ℕ) (number : ℕ) (new : List (List ℕ)) : Type 0 where
  pub grown : (new ≡ old) ⊎ (new ≡ old ++ row ∷ [])
  pub stands : StandsAt new row number

-- rows that were rung have numbers now, which are listed after those before
pub record AreNumbered (old : List (List ℕ)) (before : List ℕ) (rung new : List (List ℕ)) (now : List ℕ) : Type 0 where
  pub kept : IsKept old new
  pub more : List ℕ
  pub joined : now ≡ before ++ more
  pub within : All (λ number. number < length new) more
  pub are : map (λ number. get_or new number []) more ≡ rung

-- heads of a problem, with rounds as the first
pub record AreHeads (p : ProblemParts) (heads : List (List ℕ)) : Type 0 where
  pub some : 0 < length heads
  pub first : get_or heads 0 [] ≡ rounds p.stage
  pub staged : All (λ head. length head ≡ p.stage) heads
  pub reached : All (IsReached p) heads

-- numbers of a problem on the way: the records of so many leads, head by head
pub record IsBegun (p : ProblemParts) (told : List (List (List ℕ))) (t : RungParts) (done : ℕ) : Type 0 where
  pub counted : t.steps ≡ length p.leads
  pub heads : AreHeads p t.heads
  pub some_row : 0 < length t.rows
  pub first_row : get_or t.rows 0 [] ≡ rounds p.stage
  pub differ : AllDiffer t.rows
  pub within : All (λ number. number < length t.rows) t.numbers
  pub recorded : length t.records ≡ done
  pub held : All (IsHeld (length t.numbers)) t.records
  pub each : (head step : ℕ) (d : RungLead) → head < length t.heads → step < t.steps → head * t.steps + step < done
      → IsRungLead p told t (get_or t.heads head []) step (get_or t.records (head * t.steps + step) d)
