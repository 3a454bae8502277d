-- Logs of a search: their lines, their text, and what they prove.
use Rattle.std.specs.Prelude.{◌≡◌, ℕ, ◌↔◌, List, [], ◌∷◌, ◌++◌, flat_map, codes, decimal, All, Contains}
use Rattle.std.specs.List.Sorted.{IsStrictlySortedBy}
use Rattle.cr_model.specs.Problems.{ProblemParts}
use Rattle.cr_model.specs.Callings.{HasSteps}
use Rattle.cr_model.specs.Touches.{Kept}
use Rattle.cr_model.specs.Books.{book_order}
use Rattle.cr_model.specs.Checkpoints.{steps_text}
use Rattle.cr_model.specs.Sizes.{children}
use Rattle.cr_model.specs.OneTurn.{touch_of}
use Rattle.cr_model.specs.Texts.{IsNumber}
use Rattle.cr_audit.specs.declared.verdict.Item.{Item}
use Rattle.cr_audit.specs.declared.verdict.Item.TheVariants as item
use Rattle.cr_audit.specs.declared.verdict.Verdict.{Verdict}
use Rattle.cr_audit.specs.declared.verdict.Verdict.TheVariants as verdict
use Rattle.cr_audit.specs.Verdicts.{HoldsVerdict}

-- a line: a node, and the verdict on it
pub record LineParts : Type 0 where
  pub node : List ℕ
  pub verdict : Verdict

-- an item's text
abbrev pub item_text : Item → List ℕ
item_text (item.Count i) = codes "count " ++ decimal i
item_text (item.Leads i) = codes "leads " ++ decimal i
item_text (item.Rows i) = codes "rows " ++ decimal i
item_text item.Com = codes "com"

-- a verdict's text
abbrev pub verdict_text : Verdict → List ℕ
verdict_text verdict.Open = codes "open"
verdict_text verdict.Long = codes "long"
verdict_text (verdict.Again i j) = codes "again " ++ decimal i ++ codes " " ++ decimal j
verdict_text (verdict.Home i) = codes "home " ++ decimal i
verdict_text (verdict.Many of) = codes "many " ++ item_text of
verdict_text (verdict.Few of) = codes "few " ++ item_text of
verdict_text (verdict.Back k) = codes "back " ++ decimal k

-- a line's text: the node's calling, or `-` for the root, a space, the verdict and a line feed
abbrev pub line_text : ProblemParts → LineParts → List ℕ
line_text p line = steps_text p line.node ++ codes " " ++ verdict_text line.verdict ++ codes "\n"

-- the text of a log: a line after another
abbrev pub log_text : ProblemParts → List LineParts → List ℕ
log_text p lines = flat_map (line_text p) lines

-- the numbers of an item, and of a verdict, are ones that a line may have
abbrev pub ItemIsSmall : Item → Type 0
ItemIsSmall (item.Count i) = IsNumber i
ItemIsSmall (item.Leads i) = IsNumber i
ItemIsSmall (item.Rows i) = IsNumber i
ItemIsSmall item.Com = Unit {0}

abbrev pub IsSmall : Verdict → Type 0
IsSmall verdict.Open = Unit {0}
IsSmall verdict.Long = Unit {0}
IsSmall (verdict.Again i j) = IsNumber i × IsNumber j
IsSmall (verdict.Home i) = IsNumber i
IsSmall (verdict.Many of) = ItemIsSmall of
IsSmall (verdict.Few of) = ItemIsSmall of
IsSmall (verdict.Back k) = IsNumber k

-- a line of a log of the problem: the node's steps exist, and its numbers are at most 2^63 - 1
pub record IsLine (p : ProblemParts) (line : LineParts) : Type 0 where
  pub steps : HasSteps p line.node
  pub small : IsSmall line.verdict

-- the nodes that a line opens: the children of an open node in the order of their steps, and else none
abbrev pub opened_by : ProblemParts → List ℕ → Verdict → List (List ℕ)
opened_by p node verdict.Open = children p node
opened_by p node verdict.Long = []
opened_by p node (verdict.Again i j) = []
opened_by p node (verdict.Home i) = []
opened_by p node (verdict.Many of) = []
opened_by p node (verdict.Few of) = []
opened_by p node (verdict.Back k) = []

-- lines for nodes that are due, from the first of them on, and the nodes that are due after them. After the line of an
-- open node come the lines of its children, and of what is below each, before those of the nodes that are due else
abbrev pub AreDue : ProblemParts → List (List ℕ) → List LineParts → List (List ℕ) → Type 0
AreDue p due [] left = due ≡ left
AreDue p [] (line ∷ lines) left = ⊥
AreDue p (node ∷ due) (line ∷ lines) left = (line.node ≡ node) × AreDue p (opened_by p node line.verdict ++ due) lines left

-- the line's verdict holds of its node
abbrev pub IsTrueLine : ProblemParts → LineParts → Type 0
IsTrueLine p line = HoldsVerdict p line.node line.verdict

-- some line has the node as open, and the calling is the node as often as there are parts
pub record IsOpened (p : ProblemParts) (lines : List LineParts) (calling : List ℕ) : Type 0 where
  pub node : List ℕ
  pub stands : Contains lines (record { node = node; verdict = verdict.Open })
  pub is : calling ≡ touch_of p node

-- a log proves a list of touches: it is the text of lines, the first for the root and one for each node that an open line
-- opens, in their order and no others; each verdict holds; and the list has, ascending in the book's order, the
-- touches of the open nodes that are kept, and no others
pub record Proves (p : ProblemParts) (log : List ℕ) (touches : List (List ℕ)) : Type 0 where
  pub lines : List LineParts
  pub text : log ≡ log_text p lines
  pub form : All (IsLine p) lines
  pub whole : AreDue p ([] ∷ []) lines []
  pub verdicts : All (IsTrueLine p) lines
  pub ascending : IsStrictlySortedBy (book_order p) touches
  pub each : (calling : List ℕ) → Contains touches calling ↔ (IsOpened p lines calling × Kept p calling)
