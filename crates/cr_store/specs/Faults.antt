-- Why bytes are no checkpoint: the first check that does not hold.
use Rattle.std.specs.Prelude.{◌≡◌, ℕ, ◌+◌, ◌≤◌, ◌⊎◌, List, [], ◌∷◌, length, get_or, Result, MatchResult}
use Rattle.std.specs.declared.cmp.Ordering.TheVariants.{Less}
use Rattle.cr_model.specs.declared.file_fault.ProblemFault.{ProblemFault}
use Rattle.cr_model.specs.Problems.{ProblemParts}
use Rattle.cr_model.specs.Callings.{length_of}
use Rattle.cr_model.specs.Queries.{part_cap}
use Rattle.cr_model.specs.Touches.{Kept}
use Rattle.cr_model.specs.Nodes.{Independent}
use Rattle.cr_model.specs.Books.{book_order}
use Rattle.cr_model.specs.Checks.{Check, each_index, AllHold, IsFirstWrong, IsFirstFailure}
use Rattle.cr_model.specs.ProblemFiles.{ProblemFile, FirstProblemFault}
use Rattle.cr_node.specs.Overlaps.{items, IsFirstOverlap}
use Rattle.cr_store.specs.declared.fault.CheckFault.{CheckFault}
use Rattle.cr_store.specs.declared.fault.CheckFault.TheVariants as fault
use Rattle.cr_store.specs.Shapes.{ShapeParts, HasShape}
use Rattle.cr_store.specs.ShapeFaults.{IsFormFault}
use Rattle.cr_store.specs.Lines.{OutlineParts, outline_of, node_lines_of, line_at, line_of, HasItems, CanBeRead}
use Rattle.cr_store.specs.Reading.{AreOutlined}

-- a node is no longer than a part may be
abbrev pub IsShortNode : ProblemParts → List (List ℕ) → ℕ → Type 0
IsShortNode p nodes i = length_of p (get_or nodes i []) ≤ part_cap p

-- a found touch is kept
abbrev pub IsKeptAt : ProblemParts → List (List ℕ) → ℕ → Type 0
IsKeptAt p found i = Kept p (get_or found i [])

-- a found touch comes in the book's order after the one before it, if there is one
abbrev pub Follows : ProblemParts → List (List ℕ) → ℕ → Type 0
Follows p found i = (before : ℕ) → before + 1 ≡ i → book_order p (get_or found before []) (get_or found i []) ≡ Less

-- The checks of found touches and nodes, in their order. Their faults tell lines.
abbrev pub lengths_check : ProblemParts → OutlineParts → List (List ℕ) → List (List ℕ) → Check CheckFault
lengths_check p outline found nodes = each_index (IsShortNode p nodes) (length nodes) (λ i. fault.NodeLong (line_at outline (length found + i)))

abbrev pub kept_check : ProblemParts → OutlineParts → List (List ℕ) → Check CheckFault
kept_check p outline found = each_index (IsKeptAt p found) (length found) (λ i. fault.NotKept (line_at outline i))

abbrev pub order_check : ProblemParts → OutlineParts → List (List ℕ) → Check CheckFault
order_check p outline found = each_index (Follows p found) (length found) (λ i. fault.FoundOrder (line_at outline i))

abbrev pub overlap_check : ProblemParts → OutlineParts → List (List ℕ) → List (List ℕ) → Check CheckFault
overlap_check p outline found nodes = record {
  holds = Independent p found nodes;
  fails = λ why. (i j : ℕ) × (why ≡ fault.Overlap (line_at outline i) (line_at outline j)) × IsFirstOverlap (items p found nodes) i j;
}

abbrev pub item_checks : ProblemParts → OutlineParts → List (List ℕ) → List (List ℕ) → List (Check CheckFault)
item_checks p outline found nodes =
    lengths_check p outline found nodes
    ∷ kept_check p outline found
    ∷ order_check p outline found
    ∷ overlap_check p outline found nodes
    ∷ []

-- the bytes have a shape, whose problem's bytes are a problem file
pub record HasProblem (bytes : List ℕ) (shape : ShapeParts) (p : ProblemParts) : Type 0 where
  pub shape_is : HasShape bytes shape
  pub problem : ProblemFile shape.problem p

-- and all lines are those of found touches and nodes
pub record HasLines (bytes : List ℕ) (shape : ShapeParts) (p : ProblemParts) (found nodes : List (List ℕ)) : Type 0 where
  pub problem : HasProblem bytes shape p
  pub items : HasItems p shape found nodes

-- and this is the problem's file, and what stays of the lines
pub record AreRead (bytes file : List ℕ) (p : ProblemParts) (outline : OutlineParts) (found nodes : List (List ℕ)) : Type 0 where
  pub shape : ShapeParts
  pub lines : HasLines bytes shape p found nodes
  pub file_is : file ≡ shape.problem
  pub outline_is : outline ≡ outline_of shape
  pub outlined : AreOutlined p outline found nodes

-- the problem's bytes are no problem file
pub record IsProblemWrong (bytes : List ℕ) (why : ProblemFault) : Type 0 where
  pub shape : ShapeParts
  pub shape_is : HasShape bytes shape
  pub wrong : FirstProblemFault shape.problem why

-- a line is the first that is not that of a found touch or node: those before it are, and with it they are not
pub record IsFirstUnread (p : ProblemParts) (shape : ShapeParts) (line : ℕ) : Type 0 where
  pub item : ℕ
  pub wrong : IsFirstWrong (λ i. CanBeRead p shape (i + 1)) (length shape.found + length (node_lines_of shape)) item
  pub line_is : line ≡ line_of shape item

pub record IsLineWrong (bytes : List ℕ) (line : ℕ) : Type 0 where
  pub shape : ShapeParts
  pub p : ProblemParts
  pub problem : HasProblem bytes shape p
  pub wrong : IsFirstUnread p shape line

-- one of the checks of found touches and nodes is the first that does not hold
pub record IsItemWrong (bytes : List ℕ) (why : CheckFault) : Type 0 where
  pub shape : ShapeParts
  pub p : ProblemParts
  pub found : List (List ℕ)
  pub nodes : List (List ℕ)
  pub lines : HasLines bytes shape p found nodes
  pub wrong : IsFirstFailure (item_checks p (outline_of shape) found nodes) why

-- the fault is that of the first check that does not hold
abbrev pub FirstCheckFault : List ℕ → CheckFault → Type 0
FirstCheckFault bytes (fault.Form line) = IsFormFault bytes line
FirstCheckFault bytes (fault.Problem why) = IsProblemWrong bytes why
FirstCheckFault bytes (fault.Calling line) = IsLineWrong bytes line
FirstCheckFault bytes why = IsItemWrong bytes why

-- a fault of the problem's bytes
abbrev pub IsProblemFaultOf : List ℕ → CheckFault → Type 0
IsProblemFaultOf bytes why = (wrong : ProblemFault) × (why ≡ fault.Problem wrong) × FirstProblemFault bytes wrong

-- a fault of a line
abbrev pub IsUnread : ProblemParts → ShapeParts → CheckFault → Type 0
IsUnread p shape why = (line : ℕ) × (why ≡ fault.Calling line) × IsFirstUnread p shape line

-- no memory was left, or this
abbrev pub OrNoMemory : (CheckFault → Type 0) → CheckFault → Type 0
OrNoMemory Fails why = (why ≡ fault.NoMemory) ⊎ Fails why

-- a call answers for one check, if memory is left
abbrev pub AnswersFor : {X : Type 0} → Check CheckFault → Result X CheckFault → Type 0
AnswersFor check result = MatchResult result (λ _. check.holds) (OrNoMemory check.fails)

-- and for some checks, in their order
abbrev pub AnswersForAll : {X : Type 0} → List (Check CheckFault) → Result X CheckFault → Type 0
AnswersForAll checks result = MatchResult result (λ _. AllHold checks) (OrNoMemory (IsFirstFailure checks))
