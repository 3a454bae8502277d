-- Where an audit of a log stops.
use Rattle.std.specs.Prelude.{◌≡◌, ℕ, List, Contains, ◌↔◌}
use Rattle.cr_model.specs.Problems.{ProblemParts}
use Rattle.cr_model.specs.Touches.{Kept}
use Rattle.cr_model.specs.OneTurn.{touch_of}
use Rattle.cr_audit.specs.declared.fault.AuditFault.{AuditFault}
use Rattle.cr_audit.specs.declared.fault.AuditFault.TheVariants as fault
use Rattle.cr_audit.specs.declared.verdict.Verdict.TheVariants as verdict
use Rattle.cr_audit.specs.Logs.{LineParts, IsTrueLine, IsOpened}
use Rattle.cr_audit.specs.Audits.{Begins, IsForFirst, IsRightTo, IsAuditFault}

-- the text does not go on with a line
pub record IsNoLine (p : ProblemParts) (text : List ℕ) : Type 0 where
  pub none : (line : LineParts) (more : List ℕ) → Begins p text line more → ⊥

-- it goes on with a line whose node is not the first that is due
pub record IsOtherNode (p : ProblemParts) (due : List (List ℕ)) (text : List ℕ) : Type 0 where
  pub line : LineParts
  pub more : List ℕ
  pub begins : Begins p text line more
  pub other : IsForFirst due line → ⊥

-- it goes on with a line whose node is the first that is due, and whose verdict does not hold
pub record IsUntrue (p : ProblemParts) (due : List (List ℕ)) (text : List ℕ) : Type 0 where
  pub line : LineParts
  pub more : List ℕ
  pub begins : Begins p text line more
  pub first : IsForFirst due line
  pub untrue : IsTrueLine p line → ⊥

-- why a line of this number is not right, where these nodes are due and the log goes on with this text
abbrev pub IsStop : ProblemParts → List (List ℕ) → List ℕ → ℕ → AuditFault → Type 0
IsStop p due text number (fault.Form place) = ⊥
IsStop p due text number (fault.Line n) = (n ≡ number) × IsNoLine p text
IsStop p due text number (fault.Node n) = (n ≡ number) × IsOtherNode p due text
IsStop p due text number (fault.Verdict n) = (n ≡ number) × IsUntrue p due text
IsStop p due text number (fault.Book place) = ⊥
IsStop p due text number fault.NoMemory = Unit {0}

-- the text goes on with a line for the first node that is due, whose verdict holds
pub record IsRightLine (p : ProblemParts) (due : List (List ℕ)) (text : List ℕ) (line : LineParts) (rest : List ℕ) : Type 0 where
  pub begins : Begins p text line rest
  pub first : IsForFirst due line
  pub holds : IsTrueLine p line

-- some lines are right, and of these nodes the kept touches were found
pub record HasPassed (p : ProblemParts) (log : List ℕ) (number : ℕ) (due : List (List ℕ)) (rest : List ℕ) (touches : List (List ℕ)) : Type 0 where
  pub right : IsRightTo p log number due rest
  pub each : (calling : List ℕ) → Contains touches calling ↔ (IsOpened p right.before calling × Kept p calling)

-- a node's touch is found, if the node is open and the touch is kept
pub record IsFound (p : ProblemParts) (line : LineParts) (calling : List ℕ) : Type 0 where
  pub opens : line.verdict ≡ verdict.Open
  pub is : calling ≡ touch_of p line.node
  pub kept : Kept p calling

-- of a log no part of which is a fault of the book
abbrev pub IsLogFault : ProblemParts → List ℕ → AuditFault → Type 0
IsLogFault p log why = (book : List ℕ) → IsAuditFault p book log why
