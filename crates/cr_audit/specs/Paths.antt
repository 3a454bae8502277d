-- A node with its text, what is counted of its steps, and rows.
use Rattle.std.specs.Prelude.{◌≡◌, ℕ, ◌+◌, ◌-◌, ◌<◌, ◌≤◌, List, [], length, get_or, take, drop, map, count_by, nat_eq}
use Rattle.cr_model.specs.Problems.{ProblemParts}
use Rattle.cr_model.specs.Callings.{HasSteps, rows_of}
use Rattle.cr_model.specs.Queries.{changes_of_method, rows_fitting}
use Rattle.cr_model.specs.Books.{calling_text}
use Rattle.cr_audit.specs.declared.path.Path.{Path}

-- a node's steps but the last, and the last alone. Of the root neither has any
abbrev pub front : List ℕ → List ℕ
front node = take (length node - 1) node

abbrev pub last_lead : List ℕ → List ℕ
last_lead node = drop (length node - 1) node

-- how often each of the problem's steps stands in a node
pub record AreTaken (p : ProblemParts) (node taken : List ℕ) : Type 0 where
  pub all : length taken ≡ length p.leads
  pub each : (step : ℕ) → step < length p.leads → get_or taken step 0 ≡ count_by (nat_eq step) node

-- how many rows of a node fit each pattern
abbrev pub fitting_of : ProblemParts → List ℕ → List ℕ
fitting_of p node = map (λ pattern. rows_fitting pattern.cells (rows_of p node)) p.query.patterns

-- the same of as many fronts of a node, the root first
pub record AreFitting (p : ProblemParts) (node : List ℕ) (many : ℕ) (fitting : List (List ℕ)) : Type 0 where
  pub all : length fitting ≡ many
  pub each : (k : ℕ) → k < many → get_or fitting k [] ≡ fitting_of p (take k node)

-- its steps exist, its text and its numbers are theirs, those of as many fronts are kept, and its rows are those of some steps
pub record Stands (p : ProblemParts) (rung : List ℕ) (opened : ℕ) (path : Path) : Type 0 where
  pub known : HasSteps p path.node.items
  pub text : path.text.items ≡ calling_text p path.node.items
  pub taken : AreTaken p path.node.items path.taken.items
  pub changes : path.changes ≡ changes_of_method p path.node.items
  pub fitting : AreFitting p path.node.items opened path.fitting.items
  pub rows : path.rows.items ≡ rows_of p rung

-- with the rows before its last lead
abbrev pub IsAt : ProblemParts → Path → Type 0
IsAt p path = Stands p (front path.node.items) (length path.node.items) path

-- with all of its rows
abbrev pub IsOpen : ProblemParts → Path → Type 0
IsOpen p path = Stands p path.node.items (length path.node.items + 1) path

-- the last lead is rung, and nothing else is changed
pub record IsRung (p : ProblemParts) (old new : Path) : Type 0 where
  pub node : new.node.items ≡ old.node.items
  pub text : new.text.items ≡ old.text.items
  pub taken : new.taken.items ≡ old.taken.items
  pub changes : new.changes ≡ old.changes
  pub fitting : new.fitting.items ≡ old.fitting.items
  pub rows : new.rows.items ≡ rows_of p new.node.items
  pub before : take (length old.rows.items) new.rows.items ≡ old.rows.items
  pub long : length old.rows.items ≤ length new.rows.items
