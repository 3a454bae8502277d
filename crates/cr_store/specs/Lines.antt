-- What the lines of a checkpoint say of a problem, and their numbers.
use Rattle.std.specs.Prelude.{◌≡◌, ℕ, ◌+◌, ◌-◌, ◌≤◌, nat_eq, nat_abs, cond, codes, List, [], ◌∷◌, ◌++◌, length, get_or, take, drop, map, flat_map}
use Rattle.std.specs.List.{range_with_len, AllZip}
use Rattle.cr_model.specs.Problems.{ProblemParts}
use Rattle.cr_model.specs.Callings.{HasSteps, length_of}
use Rattle.cr_model.specs.Limits.{most_leads}
use Rattle.cr_model.specs.Checkpoints.{steps_text, steps_shared}
use Rattle.cr_book.specs.Readings.{IsCallingText}
use Rattle.cr_query.specs.Meeting.{HasParts}
use Rattle.cr_store.specs.Shapes.{FoundParts, NodeParts, ShapeParts, line_feeds, found_line}

-- all node lines
abbrev pub node_lines_of : ShapeParts → List NodeParts
node_lines_of shape = flat_map (λ job. job) shape.jobs

-- of the lines of a checkpoint, how many there are: the number of the line `found`, and below it so many found touches
-- and jobs of so many nodes
pub record OutlineParts : Type 0 where
  pub found_at : ℕ
  pub touches : ℕ
  pub sizes : List ℕ

abbrev pub outline_of : ShapeParts → OutlineParts
outline_of shape = record { found_at = found_line shape; touches = length shape.found; sizes = map length shape.jobs }

-- how many nodes jobs of these sizes have in all
abbrev pub in_all : List ℕ → ℕ
in_all [] = 0
in_all (size ∷ sizes) = size + in_all sizes

-- the numbers of the node lines of jobs of these sizes, of which the first has its own line at a number
abbrev pub node_numbers : ℕ → List ℕ → List ℕ
node_numbers line [] = []
node_numbers line (size ∷ sizes) = range_with_len (line + 1) size ++ node_numbers (line + 1 + size) sizes

-- the numbers of the lines of found touches and then of nodes
abbrev pub numbers_in : OutlineParts → List ℕ
numbers_in outline = range_with_len (outline.found_at + 1) outline.touches ++ node_numbers (outline.found_at + outline.touches + 2) outline.sizes

abbrev pub item_numbers : ShapeParts → List ℕ
item_numbers shape = numbers_in (outline_of shape)

-- the number of the line after jobs of these sizes, of which the first has its own line at a number
abbrev pub last_after : ℕ → List ℕ → ℕ
last_after line [] = line
last_after line (size ∷ sizes) = last_after (line + 1 + size) sizes

-- the number of the last line, `end`
abbrev pub last_in : OutlineParts → ℕ
last_in outline = last_after (outline.found_at + outline.touches + 2) outline.sizes

abbrev pub last_line : ShapeParts → ℕ
last_line shape = last_in (outline_of shape)

-- the number of the line of a touch or node, where found touches and then nodes are numbered from 0
abbrev pub line_at : OutlineParts → ℕ → ℕ
line_at outline item = get_or (numbers_in outline) item 0

abbrev pub line_of : ShapeParts → ℕ → ℕ
line_of shape item = line_at (outline_of shape) item

-- the line is that of a found touch: its length, its calling, and that is as many equal words as the query has parts
pub record IsTouchOf (p : ProblemParts) (line : FoundParts) (touch : List ℕ) : Type 0 where
  pub calling : IsCallingText p line.calling touch
  pub long : line.length ≡ length_of p touch
  pub parts : HasParts p touch

-- how many steps the line of a node leaves to the node before it: in version 1 none
abbrev pub left_out : ℕ → List ℕ → List ℕ → ℕ
left_out version before node = cond (nat_eq version 1) 0 (steps_shared before node)

-- the line is that of a node of at most 1,024 steps after another one
pub record IsNodeOf (p : ProblemParts) (version : ℕ) (before : List ℕ) (line : NodeParts) (node : List ℕ) : Type 0 where
  pub steps : HasSteps p node
  pub few : length node ≤ most_leads
  pub shared : line.shared ≡ left_out version before node
  pub rest : line.steps ≡ steps_text p (drop (left_out version before node) node)

-- the lines are those of nodes, of which the first comes after this one
abbrev pub AreNodesOf : ProblemParts → ℕ → List ℕ → List NodeParts → List (List ℕ) → Type 0
AreNodesOf p version before [] nodes = nodes ≡ []
AreNodesOf p version before (line ∷ lines) [] = ⊥
AreNodesOf p version before (line ∷ lines) (node ∷ nodes) = IsNodeOf p version before line node × AreNodesOf p version node lines nodes

-- the lines are those of found touches and of nodes, of which the first comes after the root
pub record AreItemsOf (p : ProblemParts) (version : ℕ) (touch_lines : List FoundParts) (node_lines : List NodeParts) (found nodes : List (List ℕ)) : Type 0 where
  pub touches_are : AllZip (IsTouchOf p) touch_lines found
  pub nodes_are : AreNodesOf p version [] node_lines nodes

-- all lines of a shape are those of found touches and nodes
abbrev pub HasItems : ProblemParts → ShapeParts → List (List ℕ) → List (List ℕ) → Type 0
HasItems p shape found nodes = AreItemsOf p shape.version shape.found (node_lines_of shape) found nodes

-- the first lines, so many of them, are those of some found touches and nodes
abbrev pub CanBeRead : ProblemParts → ShapeParts → ℕ → Type 0
CanBeRead p shape number = (found nodes : List (List ℕ)) × AreItemsOf p shape.version (take number shape.found) (take (number - length shape.found) (node_lines_of shape)) found nodes

-- the parts of a checkpoint whose problem has two line feeds, for the worked example
abbrev pub numbered_example : ShapeParts
numbered_example = record {
  version = 2;
  problem = codes "a\nb\n";
  found = record { length = 20; calling = codes "bb" } ∷ record { length = 40; calling = codes "pppp" } ∷ [];
  jobs = (record { shared = 0; steps = codes "bp" } ∷ []) ∷ (record { shared = 0; steps = codes "pb" } ∷ record { shared = 1; steps = codes "p" } ∷ []) ∷ [];
}

-- these bytes stand in a text on the line of this number: before them stand all lines with lesser numbers
pub record StandsOn (text line : List ℕ) (number : ℕ) : Type 0 where
  pub front : List ℕ
  pub rest : List ℕ
  pub is : text ≡ front ++ (line ++ rest)
  pub number_is : number ≡ 1 + line_feeds front
