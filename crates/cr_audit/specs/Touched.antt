-- The touches that a log has proved so far, and where an audit stands.
use Rattle.std.specs.Prelude.{◌≡◌, ◌⊎◌, ◌↔◌, ℕ, List, [], ◌∷◌, ◌++◌, length, map, All, Contains, Result, Ok, Err}
use Rattle.cr_model.specs.Problems.{ProblemParts}
use Rattle.cr_model.specs.Callings.{HasSteps, length_of}
use Rattle.cr_model.specs.Books.{book_text}
use Rattle.cr_audit.specs.declared.fault.AuditFault.{AuditFault}
use Rattle.cr_audit.specs.declared.fault.AuditFault.TheVariants as fault
use Rattle.cr_audit.specs.declared.touches.Touch.{Touch}
use Rattle.cr_audit.specs.declared.walk.Walk.{Walk}
use Rattle.cr_audit.specs.Audits.{DifferFirst}
use Rattle.cr_audit.specs.Dues.{dues, later}
use Rattle.cr_audit.specs.Logs.{LineParts, opened_by}
use Rattle.cr_audit.specs.Paths.{IsAt}
use Rattle.cr_audit.specs.Stops.{IsRightLine, HasPassed, IsFound}

-- a touch has its calling's length
pub record IsMeasured (p : ProblemParts) (touch : Touch) : Type 0 where
  pub known : HasSteps p touch.steps.items
  pub long : touch.length ≡ length_of p touch.steps.items

abbrev pub AreTouches : ProblemParts → List Touch → Type 0
AreTouches p touches = All (IsMeasured p) touches

-- their callings
abbrev pub callings : List Touch → List (List ℕ)
callings touches = map (λ touch. touch.steps.items) touches

-- the log is right, and the touches are those that it proves
pub record IsProved (p : ProblemParts) (log : List ℕ) (touches : List Touch) : Type 0 where
  pub lines : ℕ
  pub passed : HasPassed p log lines [] [] (callings touches)
  pub are : AreTouches p touches

-- where an audit stands
pub record IsWalk (p : ProblemParts) (walk : Walk) : Type 0 where
  pub at : IsAt p walk.path
  pub are : AreTouches p walk.touches.keys

-- it went past a line
pub record HasMoved (p : ProblemParts) (old : Walk) (text : List ℕ) (new : Walk) (rest : List ℕ) : Type 0 where
  pub line : LineParts
  pub due : dues p old.due old.path.node.items ≡ line.node ∷ later p line.node
  pub right : IsRightLine p (line.node ∷ later p line.node) text line rest
  pub left : dues p new.due new.path.node.items ≡ opened_by p line.node line.verdict ++ later p line.node
  pub found : (calling : List ℕ) → Contains (callings new.touches.keys) calling ↔ (Contains (callings old.touches.keys) calling ⊎ IsFound p line calling)

-- what a book is told to be, beside touches
abbrev pub IsBookAnswer : ProblemParts → List ℕ → List (List ℕ) → Result ℕ AuditFault → Type 0
IsBookAnswer p book touches (Ok number) = (book ≡ book_text p touches) × (number ≡ length touches)
IsBookAnswer p book touches (Err (fault.Form place)) = ⊥
IsBookAnswer p book touches (Err (fault.Line number)) = ⊥
IsBookAnswer p book touches (Err (fault.Node number)) = ⊥
IsBookAnswer p book touches (Err (fault.Verdict number)) = ⊥
IsBookAnswer p book touches (Err (fault.Book place)) = DifferFirst book (book_text p touches) place
IsBookAnswer p book touches (Err fault.NoMemory) = Unit {0}
