-- The shape of a checkpoint's text: its lines, the numbers on them, and the bytes that can stand between.
use Rattle.std.specs.Prelude.{◌≡◌, ℕ, ◌+◌, ◌<◌, ◌⊎◌, Bool, true, cond, nat_eq, nat_le, ◌&&◌, ◌||◌, List, ◌++◌, length, flat_map, codes, decimal, count_by, All}
use Rattle.std.specs.List.{list_all}
use Rattle.cr_model.specs.Checkpoints.{number_line}
use Rattle.cr_model.specs.Texts.{IsNumber}

-- what stands on the line of a found touch: its length and its calling
pub record FoundParts : Type 0 where
  pub length : ℕ
  pub calling : List ℕ

-- what stands on the line of a node: how many steps it shares with the node before, which is 0 in version 1, and the
-- text of its other steps
pub record NodeParts : Type 0 where
  pub shared : ℕ
  pub steps : List ℕ

-- what stands on the lines of a checkpoint
pub record ShapeParts : Type 0 where
  pub version : ℕ
  pub problem : List ℕ
  pub found : List FoundParts
  pub jobs : List (List NodeParts)

-- a number, a space and a calling
abbrev pub found_text : FoundParts → List ℕ
found_text found = decimal found.length ++ codes " " ++ found.calling ++ codes "\n"

-- in version 1 its steps alone
abbrev pub node_text : ℕ → NodeParts → List ℕ
node_text version node = cond (nat_eq version 1) (node.steps ++ codes "\n") (decimal node.shared ++ codes " " ++ node.steps ++ codes "\n")

-- the number of nodes, and their lines
abbrev pub job_text : ℕ → List NodeParts → List ℕ
job_text version job = number_line (codes "job") (length job) ++ flat_map (node_text version) job

-- the text whose lines have these parts
abbrev pub shape_text : ShapeParts → List ℕ
shape_text s = number_line (codes "ringsearch checkpoint") s.version
    ++ number_line (codes "problem") (length s.problem)
    ++ s.problem
    ++ codes "\n"
    ++ number_line (codes "found") (length s.found)
    ++ flat_map found_text s.found
    ++ number_line (codes "jobs") (length s.jobs)
    ++ flat_map (job_text s.version) s.jobs
    ++ codes "end\n"

-- a byte `A` to `Z` or `a` to `z`
abbrev pub is_letter : ℕ → Bool
is_letter byte = (nat_le 65 byte && nat_le byte 90) || (nat_le 97 byte && nat_le byte 122)

-- one letter or more
pub record AreLetters (text : List ℕ) : Type 0 where
  pub some : 0 < length text
  pub letters : list_all is_letter text ≡ true

-- `-`, or one letter or more
abbrev pub AreSteps : List ℕ → Type 0
AreSteps text = (text ≡ codes "-") ⊎ AreLetters text

pub record IsFoundLine (found : FoundParts) : Type 0 where
  pub length : IsNumber found.length
  pub calling : AreLetters found.calling

pub record IsNodeLine (version : ℕ) (node : NodeParts) : Type 0 where
  pub shared : IsNumber node.shared
  pub alone : version ≡ 1 → node.shared ≡ 0
  pub steps : AreSteps node.steps

-- a job of one node or more
pub record IsJobLines (version : ℕ) (job : List NodeParts) : Type 0 where
  pub some : 0 < length job
  pub few : IsNumber (length job)
  pub nodes : All (IsNodeLine version) job

-- parts that can stand on the lines of a checkpoint of version 1 or 2
pub record IsShape (s : ShapeParts) : Type 0 where
  pub version : (s.version ≡ 1) ⊎ (s.version ≡ 2)
  pub problem : IsNumber (length s.problem)
  pub found_few : IsNumber (length s.found)
  pub found : All IsFoundLine s.found
  pub jobs_few : IsNumber (length s.jobs)
  pub jobs : All (IsJobLines s.version) s.jobs

-- the text has this shape
pub record HasShape (text : List ℕ) (s : ShapeParts) : Type 0 where
  pub shape : IsShape s
  pub is : text ≡ shape_text s

-- the number of line feeds in a text
abbrev pub line_feeds : List ℕ → ℕ
line_feeds text = count_by (nat_eq 10) text

-- the number of the line `found`, from 1: it comes after two lines and those that the problem's bytes make
abbrev pub found_line : ShapeParts → ℕ
found_line s = 4 + line_feeds s.problem
