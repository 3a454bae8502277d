-- What reading lines tells.
use Rattle.std.specs.Prelude.{◌≡◌, ℕ, ◌^◌, ◌<◌, ◌≤◌, Bool, true, false, List, [], ◌++◌, length, get_or, take, map, All, Option, Some, None}
use Rattle.std.specs.Global.{Vec}
use Rattle.std.specs.List.{AllZip}
use Rattle.cr_model.specs.Problems.{ProblemParts}
use Rattle.cr_model.specs.Callings.{HasSteps}
use Rattle.cr_model.specs.Limits.{most_leads}
use Rattle.cr_model.specs.Checkpoints.{steps_text, last_node}
use Rattle.cr_book.specs.Readings.{IsCallingText}
use Rattle.cr_store.specs.declared.outline.Outline.{Outline}
use Rattle.cr_store.specs.declared.shape.NodeLine.{NodeLine}
use Rattle.cr_store.specs.Shapes.{FoundParts, NodeParts}
use Rattle.cr_store.specs.ShapeReads.{job_parts}
use Rattle.cr_store.specs.Lines.{OutlineParts, in_all, last_in, IsTouchOf, IsNodeOf, AreNodesOf}

-- what stands on the lines of jobs
abbrev pub lines_of_jobs : List (Vec NodeLine) → List (List NodeParts)
lines_of_jobs jobs = map job_parts jobs

abbrev pub outline_parts : Outline → OutlineParts
outline_parts outline = record { found_at = outline.found_at; touches = outline.touches; sizes = outline.sizes.items }

-- found touches and nodes of a problem, as many as an outline has, of fewer than 2^64 lines
pub record AreOutlined (p : ProblemParts) (outline : OutlineParts) (found nodes : List (List ℕ)) : Type 0 where
  pub few : last_in outline < 2 ^ 64
  pub as_many_touches : outline.touches ≡ length found
  pub as_many_nodes : in_all outline.sizes ≡ length nodes
  pub touches_known : All (HasSteps p) found
  pub nodes_known : All (HasSteps p) nodes

-- the calling of a text, or that it is that of none
abbrev pub TellsCalling : ProblemParts → List ℕ → Option (List ℕ) → Type 0
TellsCalling p text None = (calling : List ℕ) → IsCallingText p text calling → ⊥
TellsCalling p text (Some calling) = IsCallingText p text calling

-- the touch of a line, or that it is that of none
abbrev pub TellsTouch : ProblemParts → FoundParts → Option (List ℕ) → Type 0
TellsTouch p line None = (touch : List ℕ) → IsTouchOf p line touch → ⊥
TellsTouch p line (Some touch) = IsTouchOf p line touch

-- the text is that of at most 1,024 steps of the problem
pub record IsStepsText (p : ProblemParts) (text steps : List ℕ) : Type 0 where
  pub known : HasSteps p steps
  pub few : length steps ≤ most_leads
  pub is : steps_text p steps ≡ text

abbrev pub TellsSteps : ProblemParts → List ℕ → Option (Vec ℕ) → Type 0
TellsSteps p text None = (steps : List ℕ) → IsStepsText p text steps → ⊥
TellsSteps p text (Some steps) = IsStepsText p text steps.items

-- so many steps of one list and then the others, or that there are not so many
abbrev pub TellsJoined : List ℕ → ℕ → List ℕ → Option (Vec ℕ) → Type 0
TellsJoined before shared rest None = length before < shared
TellsJoined before shared rest (Some steps) = (shared ≤ length before) × (steps.items ≡ take shared before ++ rest)

-- the node of a line after another one, or that it is that of none
abbrev pub TellsNode : ProblemParts → ℕ → List ℕ → NodeParts → Option (List ℕ) → Type 0
TellsNode p version before line None = (node : List ℕ) → IsNodeOf p version before line node → ⊥
TellsNode p version before line (Some node) = IsNodeOf p version before line node

abbrev pub touch_line_at : List FoundParts → ℕ → FoundParts
touch_line_at lines i = get_or lines i (record { length = 0; calling = [] })

abbrev pub node_line_at : List NodeParts → ℕ → NodeParts
node_line_at lines i = get_or lines i (record { shared = 0; steps = [] })

-- the line after those that were read is that of no touch
pub record StopsAtTouch (p : ProblemParts) (lines : List FoundParts) (number : ℕ) : Type 0 where
  pub within : number < length lines
  pub none : (touch : List ℕ) → IsTouchOf p (touch_line_at lines number) touch → ⊥

-- the touches of the first lines: of all, or of those before the first that is that of none
pub record ReadsTouches (p : ProblemParts) (lines : List FoundParts) (found : List (List ℕ)) (whole : Bool) : Type 0 where
  pub are : AllZip (IsTouchOf p) (take (length found) lines) found
  pub ends : whole ≡ true → length found ≡ length lines
  pub stops : whole ≡ false → StopsAtTouch p lines (length found)

-- the line after those that were read is that of no node
pub record StopsAtNode (p : ProblemParts) (version : ℕ) (before : List ℕ) (lines : List NodeParts) (nodes : List (List ℕ)) : Type 0 where
  pub within : length nodes < length lines
  pub none : (node : List ℕ) → IsNodeOf p version (last_node before nodes) (node_line_at lines (length nodes)) node → ⊥

-- the nodes of the first lines: of all, or of those before the first that is that of none
pub record ReadsNodes (p : ProblemParts) (version : ℕ) (before : List ℕ) (lines : List NodeParts) (nodes : List (List ℕ)) (whole : Bool) : Type 0 where
  pub are : AreNodesOf p version before (take (length nodes) lines) nodes
  pub ends : whole ≡ true → length nodes ≡ length lines
  pub stops : whole ≡ false → StopsAtNode p version before lines nodes

-- to some nodes, those of the first lines after them were added
pub record AddsNodes (p : ProblemParts) (version : ℕ) (lines : List NodeParts) (old new : List (List ℕ)) (whole : Bool) : Type 0 where
  pub more : List (List ℕ)
  pub is : new ≡ old ++ more
  pub reads : ReadsNodes p version (last_node [] old) lines more whole
