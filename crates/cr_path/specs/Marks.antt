-- Marks of representative rows.
use Rattle.std.specs.Prelude.{◌≡◌, ℕ, ◌+◌, ◌-◌, ◌*◌, ◌<◌, ◌≤◌, Bool, true, false, cond, nat_eq, List, [], length, get_or, take}
use Rattle.std.specs.List.{list_any}
use Rattle.cr_model.specs.Problems.{ProblemParts}
use Rattle.cr_model.specs.Callings.{rows_of, head_of}
use Rattle.cr_model.specs.Decided.{rows_differ}
use Rattle.cr_model.specs.Levels.{is_listed}
use Rattle.cr_path.specs.declared.numbers.table.LeadRecord.{LeadRecord}
use Rattle.cr_path.specs.Numbers.{NumberParts, IsRecord, lead_from, numbers_of, places_of, is_seen}

-- of each representative row whether it is marked, and how many leads do not have theirs marked
pub record MarksParts : Type 0 where
  pub marks : List Bool
  pub unmarked : ℕ

-- one of the numbers is marked
abbrev pub some_marked : List Bool → List ℕ → Bool
some_marked marks numbers = list_any (λ number. get_or marks number false) numbers

-- the marks after those of some numbers were set
abbrev pub AreSet : Bool → List ℕ → List Bool → List Bool → Type 0
AreSet mark numbers old new =
    (number : ℕ) → number < length old → get_or new number false ≡ cond (list_any (nat_eq number) numbers) mark (get_or old number false)

-- the marked numbers are those of the leads at some places
abbrev pub AreOf : NumberParts → List ℕ → List Bool → Type 0
AreOf t places marks = (number : ℕ) → number < t.rows → get_or marks number false ≡ is_seen t places number

-- the marks tell of some rows: a lead brings one of these exactly where one of its numbers is marked
abbrev pub TellOf : ProblemParts → NumberParts → List (List ℕ) → List Bool → Type 0
TellOf p t rows marks = (head step : ℕ) → head < length t.heads → step < t.steps
    → some_marked marks (numbers_of t (head * t.steps + step)) ≡ list_any (is_listed rows) (lead_from p (get_or t.heads head []) step)

-- the numbers of a node's first leads are marked, of as many as bring no row again: the next lead, if there is one, brings one
pub record AreMarked (p : ProblemParts) (t : NumberParts) (node : List ℕ) (marks : List Bool) (fresh : ℕ) : Type 0 where
  pub within : fresh ≤ length node
  pub counted : length marks ≡ t.rows
  pub of : AreOf t (places_of t (take fresh node)) marks
  pub differ : rows_differ (rows_of p (take fresh node)) ≡ true
  pub again : fresh < length node → rows_differ (rows_of p (take (fresh + 1) node)) ≡ false

-- the same, told by how many leads do not have theirs marked
pub record HasMarks (p : ProblemParts) (t : NumberParts) (node : List ℕ) (marks : List Bool) (unmarked : ℕ) : Type 0 where
  pub within : unmarked ≤ length node
  pub are : AreMarked p t node marks (length node - unmarked)

-- the record of a step that is rung after a node, at a place, whose numbers tell whether it brings a row of the node again
pub record IsLead (p : ProblemParts) (t : NumberParts) (node : List ℕ) (step place : ℕ) (lead : LeadRecord) : Type 0 where
  pub known : IsRecord p t (head_of p node) step place lead
  pub told : list_any (is_seen t (places_of t node)) (numbers_of t place) ≡ list_any (is_listed (rows_of p node)) (lead_from p (head_of p node) step)
