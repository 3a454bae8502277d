-- What each step of reading a shape tells.
use Rattle.std.specs.Prelude.{◌≡◌, ℕ, ◌<◌, cond, nat_eq, codes, decimal, List, ◌++◌, length, flat_map, All}
use Rattle.cr_model.specs.Checkpoints.{number_line}
use Rattle.cr_model.specs.Texts.{IsNumber}
use Rattle.cr_store.specs.declared.shape_stop.Stop.{Stop}
use Rattle.cr_store.specs.declared.shape_stop.Stop.TheVariants as stop
use Rattle.cr_store.specs.Shapes.{FoundParts, NodeParts, IsFoundLine, IsJobLines, found_text, job_text}
use Rattle.cr_store.specs.ShapeFaults.{IsShort}
use Rattle.cr_store.specs.ShapeStages.{IsVersion, IsWrongAt, AtProblemSize, AtStart}

-- it begins with the text of no known value
abbrev pub NoneBegins : {V : Type 0} → (V → List ℕ) → (V → Type 0) → List ℕ → Type 0
NoneBegins {V} text Known all = (value : V) (rest : List ℕ) → Known value → all ≡ text value ++ rest → ⊥

-- a found touch's line without its line feed
abbrev pub found_body : FoundParts → List ℕ
found_body found = decimal found.length ++ codes " " ++ found.calling

-- a node's line without its line feed
abbrev pub node_body : ℕ → NodeParts → List ℕ
node_body version node = cond (nat_eq version 1) node.steps (decimal node.shared ++ codes " " ++ node.steps)

-- so many values whose texts stand one after another, and what comes after them
pub record AreRead {V : Type 0} (text : V → List ℕ) (Known : V → Type 0) (count : ℕ) (all : List ℕ) (values : List V) (rest : List ℕ) : Type 0 where
  pub known : All Known values
  pub many : length values ≡ count
  pub is : all ≡ flat_map text values ++ rest

-- fewer bytes are left after the line `problem` than it says
pub record IsShortAfter (all : List ℕ) : Type 0 where
  pub size : ℕ
  pub rest : List ℕ
  pub fits : IsNumber size
  pub is : all ≡ number_line (codes "problem") size ++ rest
  pub few : length rest < size

-- the two lines before the problem's bytes, these, and what comes after them
pub record IsHead (all : List ℕ) (version : ℕ) (problem rest : List ℕ) : Type 0 where
  pub known : IsVersion version
  pub fits : IsNumber (length problem)
  pub is : all ≡ number_line (codes "ringsearch checkpoint") version ++ (number_line (codes "problem") (length problem) ++ (problem ++ codes "\n" ++ rest))

-- the line `found`, as many found lines, and what comes after them
pub record IsFoundPart (all : List ℕ) (found : List FoundParts) (rest : List ℕ) : Type 0 where
  pub lines : List ℕ
  pub few : IsNumber (length found)
  pub is : all ≡ number_line (codes "found") (length found) ++ lines
  pub read : AreRead found_text IsFoundLine (length found) lines found rest

-- the line `jobs`, as many jobs, and what comes after them
pub record IsJobsPart (version : ℕ) (all : List ℕ) (jobs : List (List NodeParts)) (rest : List ℕ) : Type 0 where
  pub lines : List ℕ
  pub few : IsNumber (length jobs)
  pub is : all ≡ number_line (codes "jobs") (length jobs) ++ lines
  pub read : AreRead (job_text version) (IsJobLines version) (length jobs) lines jobs rest

-- why reading a text of a set stops
abbrev pub Stops : (List ℕ → Type 0) → List ℕ → Stop → Type 0
Stops Set all (stop.Wrong left) = IsWrongAt Set all left
Stops Set all stop.Short = ⊥
Stops Set all stop.NoMemory = Unit {0}

-- why reading the line `problem` and the problem's bytes stops
abbrev pub StopsAtProblem : List ℕ → Stop → Type 0
StopsAtProblem all (stop.Wrong left) = (IsShortAfter all → ⊥) × ((version : ℕ) → IsWrongAt (AtProblemSize version) all left)
StopsAtProblem all stop.Short = IsShortAfter all
StopsAtProblem all stop.NoMemory = Unit {0}

-- why reading the whole text stops
abbrev pub StopsAtAll : List ℕ → Stop → Type 0
StopsAtAll all (stop.Wrong left) = (IsShort all → ⊥) × IsWrongAt AtStart all left
StopsAtAll all stop.Short = IsShort all
StopsAtAll all stop.NoMemory = Unit {0}
