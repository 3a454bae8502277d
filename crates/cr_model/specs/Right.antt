-- What each check asks of the parts of a problem.
use Rattle.std.specs.Prelude.{◌≡◌, ◌≢◌, ℕ, ◌+◌, ◌-◌, ◌<◌, ◌≤◌, ◌⊎◌, Bool, true, false, ℤ, pos, ◌≤ℤ◌, List, [], length, get_or, count_by, All, Option, Some, None, IfSome}
use Rattle.cr_row.specs.Rows.{Places, IsChange}
use Rattle.cr_model.specs.declared.lead.Step.{Step}
use Rattle.cr_model.specs.declared.query.Count.{Count}
use Rattle.cr_model.specs.declared.query.MethodCount.{MethodCount}
use Rattle.cr_model.specs.declared.query.Cell.{Cell}
use Rattle.cr_model.specs.declared.query.Cell.TheVariants as cell
use Rattle.cr_model.specs.declared.query.Com.{Com}
use Rattle.cr_model.specs.Problems.{LeadParts, PatternParts}
use Rattle.cr_model.specs.Callings.{step_at, changes_at}
use Rattle.cr_model.specs.Limits.{most_methods, most_lead_changes, most_changes, most_counts, most_patterns}

-- the mark of a plain lead, `p`
abbrev pub plain : ℕ
plain = 112

-- the letter at an index: one of the first eight, `A` to `Z`, and no earlier letter
pub record LetterIsRight (letters : List ℕ) (i : ℕ) : Type 0 where
  pub few : i < most_methods
  pub from : 65 ≤ get_or letters i 0
  pub to : get_or letters i 0 ≤ 90
  pub new : (j : ℕ) → j < i → get_or letters j 0 ≢ get_or letters i 0

pub record LettersAreRight (letters : List ℕ) : Type 0 where
  pub some : 0 < length letters
  pub each : (i : ℕ) → i < length letters → LetterIsRight letters i

-- the plain mark comes first, and the others ascend by their bytes
abbrev pub IsNextMark : ℕ → ℕ → Type 0
IsNextMark before mark = (mark ≢ plain) × ((before ≡ plain) ⊎ (before < mark))

-- a step follows another: of the same method with a later mark, or the next method's plain lead
abbrev pub IsNextStep : Step → Step → Type 0
IsNextStep before step =
    ((step.method ≡ before.method) × IsNextMark before.mark step.mark) ⊎ ((step.method ≡ before.method + 1) × (step.mark ≡ plain))

-- the step at an index: the first method's plain lead, and later one that follows the one before
pub record StepIsRight (leads : List LeadParts) (i : ℕ) : Type 0 where
  pub first : i ≡ 0 → ((step_at leads i).method ≡ 0) × ((step_at leads i).mark ≡ plain)
  pub later : 0 < i → IsNextStep (step_at leads (i - 1)) (step_at leads i)

-- some changes, no more than a lead may have, all of the stage
pub record AreOfStage (stage : ℕ) (changes : List Places) : Type 0 where
  pub some : 1 ≤ length changes
  pub few : length changes ≤ most_lead_changes
  pub each : All (λ change. (change.stage ≡ stage) × IsChange change) changes

-- the lead at an index: 1 to 128 changes of the stage, a mark `a` to `z`, and the next step of a method that there is
pub record LeadIsRight (stage methods : ℕ) (leads : List LeadParts) (i : ℕ) : Type 0 where
  pub changes : AreOfStage stage (changes_at leads i)
  pub from : 97 ≤ (step_at leads i).mark
  pub to : (step_at leads i).mark ≤ 122
  pub known : (step_at leads i).method < methods
  pub next : StepIsRight leads i

pub record LeadsAreRight (stage methods : ℕ) (leads : List LeadParts) : Type 0 where
  pub some : 0 < length leads
  pub each : (i : ℕ) → i < length leads → LeadIsRight stage methods leads i
  pub led : (method : ℕ) → method < methods → (i : ℕ) × (i < length leads) × ((step_at leads i).method ≡ method)

-- two numbers from `least` to 12,000, in order
pub record LimitsAreRight (least low high : ℤ) : Type 0 where
  pub from : least ≤ℤ low
  pub order : low ≤ℤ high
  pub to : high ≤ℤ pos most_changes

-- a count at an index: one of the first sixteen, of a mark that some lead has
pub record CountIsRight (leads : List LeadParts) (i : ℕ) (count : Count) : Type 0 where
  pub few : i < most_counts
  pub known : (k : ℕ) × (k < length leads) × ((step_at leads k).mark ≡ count.mark)
  pub limits : LimitsAreRight (pos 0) count.min count.max

abbrev pub count_at : List Count → ℕ → Count
count_at counts i = get_or counts i (record { mark = 0; min = pos 0; max = pos 0 })

-- a method count at an index: one of the first sixteen, of a letter that some method has
pub record MethodCountIsRight (letters : List ℕ) (i : ℕ) (count : MethodCount) : Type 0 where
  pub few : i < most_counts
  pub known : (k : ℕ) × (k < length letters) × (get_or letters k 0 ≡ count.letter)
  pub limits : LimitsAreRight (pos 0) count.min count.max

abbrev pub method_count_at : List MethodCount → ℕ → MethodCount
method_count_at counts i = get_or counts i (record { letter = 0; min = pos 0; max = pos 0 })

-- the bell that a cell names
abbrev pub bell_named : Cell → Option ℕ
bell_named (cell.Bell b) = Some b
bell_named cell.Any = None
bell_named cell.Run = None

-- the cell stands for any number of bells
abbrev pub is_run : Cell → Bool
is_run (cell.Bell b) = false
is_run cell.Any = false
is_run cell.Run = true

abbrev pub cell_at : List Cell → ℕ → Cell
cell_at cells i = get_or cells i cell.Any

-- with no run there are as many cells as bells, and with one no more others than bells
abbrev pub FitsStage : ℕ → List Cell → Type 0
FitsStage stage cells =
    ((count_by is_run cells ≡ 0) × (length cells ≡ stage)) ⊎ ((count_by is_run cells ≡ 1) × (length cells ≤ stage + 1))

-- each bell named is one of the stage
abbrev pub AreBellsOf : ℕ → List Cell → Type 0
AreBellsOf stage cells = (k : ℕ) → k < length cells → IfSome (bell_named (cell_at cells k)) (λ b. b ≤ stage)

-- no cell before the one at an index names its bell
abbrev pub IsNamedFirst : List Cell → ℕ → Type 0
IsNamedFirst cells k = (j b : ℕ) → j < k → bell_named (cell_at cells j) ≡ Some b → bell_named (cell_at cells k) ≢ Some b

-- the cells of a pattern: as many as the stage takes, with bells of the stage, none named twice
pub record CellsAreRight (stage : ℕ) (cells : List Cell) : Type 0 where
  pub size : FitsStage stage cells
  pub bells : AreBellsOf stage cells
  pub once : (k : ℕ) → k < length cells → IsNamedFirst cells k

-- a pattern at an index: one of the first thirty-two
pub record PatternIsRight (stage i : ℕ) (pattern : PatternParts) : Type 0 where
  pub few : i < most_patterns
  pub cells : CellsAreRight stage pattern.cells
  pub limits : LimitsAreRight (pos 0) pattern.min pattern.max

abbrev pub pattern_at : List PatternParts → ℕ → PatternParts
pattern_at patterns i = get_or patterns i (record { cells = []; min = pos 0; max = pos 0 })

abbrev pub ComIsRight : Option Com → Type 0
ComIsRight None = Unit {0}
ComIsRight (Some limits) = LimitsAreRight (pos 0) limits.min limits.max
