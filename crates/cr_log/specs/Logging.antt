-- A log on its way: where it stands, what is logged, and what is due.
use Rattle.std.specs.Prelude.{◌≡◌, ℕ, ◌-◌, ◌<◌, ◌≤◌, Bool, true, false, cond, List, [], ◌∷◌, length, get_or, take, map, flat_map, All, Option, Some, None}
use Rattle.std.specs.List.{range_with_len}
use Rattle.cr_model.specs.Problems.{ProblemParts}
use Rattle.cr_model.specs.Callings.{rows_of, AllDiffer}
use Rattle.cr_model.specs.Queries.{part_cap}
use Rattle.cr_model.specs.Nodes.{IsValid}
use Rattle.cr_model.specs.Sizes.{child}
use Rattle.cr_model.specs.Sound.{IsSound}
use Rattle.cr_model.specs.OneTurn.{touch_found}
use Rattle.cr_query.specs.Shapes.{ShapeParts, shape_of}
use Rattle.cr_rowset.specs.Stacks.{StackParts}
use Rattle.cr_audit.specs.declared.verdict.Verdict.{Verdict}
use Rattle.cr_audit.specs.declared.verdict.Verdict.TheVariants as verdict
use Rattle.cr_audit.specs.Logs.{LineParts, IsLine, AreDue}
use Rattle.cr_log.specs.declared.ringing.Twice.{Twice}
use Rattle.cr_log.specs.FirstVerdicts.{IsFirstVerdict, IsFirstLine}

-- the patterns' shapes
abbrev pub AreShapes : ProblemParts → List ShapeParts → Type 0
AreShapes p shapes = shapes ≡ map (λ pattern. shape_of p.stage pattern.cells) p.query.patterns

-- a verdict opens its node
abbrev pub opens : Verdict → Bool
opens verdict.Open = true
opens verdict.Long = false
opens (verdict.Again i j) = false
opens (verdict.Home i) = false
opens (verdict.Many of) = false
opens (verdict.Few of) = false
opens (verdict.Back k) = false

-- the touch of a line's node, if it is open and the touch is kept
abbrev pub found_by : ProblemParts → LineParts → List (List ℕ)
found_by p line = cond (opens line.verdict) (touch_found p line.node) []

-- the children by the steps from one on
abbrev pub children_from : ProblemParts → List ℕ → ℕ → List (List ℕ)
children_from p node step = map (child node) (range_with_len step (length p.leads - step))

-- lines so far, which leave these nodes due, and the touches that they have, in the order of the lines
pub record IsLogged (p : ProblemParts) (lines : List LineParts) (found due : List (List ℕ)) : Type 0 where
  pub whole : AreDue p ([] ∷ []) lines due
  pub form : All (IsLine p) lines
  pub first : All (IsFirstLine p) lines
  pub touches : found ≡ flat_map (found_by p) lines

-- the rows of a valid node of a sound problem stand on a stack
pub record IsAt (p : ProblemParts) (node : List ℕ) (stack : StackParts) : Type 0 where
  pub sound : IsSound p
  pub valid : IsValid p node
  pub rows : stack.rows ≡ rows_of p node
  pub room : stack.room ≡ part_cap p

-- a stack has kept what stood on another, and may have more
pub record KeepsFront (old now : StackParts) : Type 0 where
  pub long : length old.rows ≤ length now.rows
  pub front : take (length old.rows) now.rows ≡ old.rows
  pub room : now.room ≡ old.room

-- of some rows the first that stands there twice, and they stand on the stack up to it
pub record IsTwice (old : StackParts) (all : List (List ℕ)) (first again : ℕ) (now : StackParts) : Type 0 where
  pub before : first < again
  pub inside : again < length all
  pub same : get_or all first [] ≡ get_or all again []
  pub late : length old.rows ≤ again
  pub stack : now ≡ record { rows = take again all; room = old.room }
  pub differ : AllDiffer (take again all)

-- all of these rows stand on the stack, or one of them stands there twice
abbrev pub RingsLead : StackParts → List (List ℕ) → Option Twice → StackParts → Type 0
RingsLead old all (Some twice) now = IsTwice old all twice.first twice.again now
RingsLead old all None now = (now ≡ record { rows = all; room = old.room }) × AllDiffer all

-- a child is cut by what its length or its rows tell, or its rows stand on the stack
abbrev pub IsRungOn : ProblemParts → List ℕ → StackParts → Option Verdict → StackParts → Type 0
IsRungOn p next old (Some why) now = IsFirstVerdict p next why × (opens why ≡ false) × KeepsFront old now
IsRungOn p next old None now = IsAt p next now × KeepsFront old now

-- a child and its verdict
pub record IsVisited (p : ProblemParts) (next : List ℕ) (old : StackParts) (why : Verdict) (steps : List ℕ) (now : StackParts) : Type 0 where
  pub steps_are : steps ≡ next
  pub first : IsFirstVerdict p next why
  pub at : opens why ≡ true → IsAt p next now
  pub kept : KeepsFront old now

-- a child that was gone to, and whether it is open
pub record IsGone (p : ProblemParts) (next : List ℕ) (old : StackParts) (open_now : Bool) (steps : List ℕ) (now : StackParts) : Type 0 where
  pub steps_are : steps ≡ next
  pub at : open_now ≡ true → IsAt p next now
  pub kept : KeepsFront old now
