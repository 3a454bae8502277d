-- What an audit answers.
use Rattle.std.specs.Prelude.{◌≡◌, ◌≢◌, ℕ, ◌+◌, ◌≤◌, ◌⊎◌, List, [], ◌∷◌, ◌++◌, length, take, All, Result, Ok, Err}
use Rattle.cr_model.specs.Problems.{ProblemParts}
use Rattle.cr_model.specs.Books.{book_text}
use Rattle.cr_audit.specs.declared.fault.AuditFault.{AuditFault}
use Rattle.cr_audit.specs.declared.fault.AuditFault.TheVariants as fault
use Rattle.cr_audit.specs.Logs.{LineParts, line_text, log_text, IsLine, AreDue, IsTrueLine, Proves}

-- the log begins with lines that are due and true: how many, what is due after them, and what the text goes on with
pub record IsRightTo (p : ProblemParts) (log : List ℕ) (lines : ℕ) (due : List (List ℕ)) (rest : List ℕ) : Type 0 where
  pub before : List LineParts
  pub number : length before ≡ lines
  pub text : log ≡ log_text p before ++ rest
  pub form : All (IsLine p) before
  pub order : AreDue p ([] ∷ []) before due
  pub verdicts : All (IsTrueLine p) before

-- a text begins with a line of the problem, and goes on so
pub record Begins (p : ProblemParts) (text : List ℕ) (line : LineParts) (rest : List ℕ) : Type 0 where
  pub form : IsLine p line
  pub is : text ≡ line_text p line ++ rest

-- the line is that of the first node that is due
abbrev pub IsForFirst : List (List ℕ) → LineParts → Type 0
IsForFirst [] line = ⊥
IsForFirst (node ∷ due) line = line.node ≡ node

-- a line, of this number from 1, has not the form of a line, or no line feed
pub record IsLineFault (p : ProblemParts) (log : List ℕ) (number : ℕ) : Type 0 where
  pub before : ℕ
  pub due : List (List ℕ)
  pub rest : List ℕ
  pub right : IsRightTo p log before due rest
  pub counted : number ≡ before + 1
  pub some : rest ≢ []
  pub none : (line : LineParts) (more : List ℕ) → Begins p rest line more → ⊥

-- its node is not the one that is due, or no line is due; or the log ends where this line is due
pub record IsNodeFault (p : ProblemParts) (log : List ℕ) (number : ℕ) : Type 0 where
  pub before : ℕ
  pub due : List (List ℕ)
  pub rest : List ℕ
  pub right : IsRightTo p log before due rest
  pub counted : number ≡ before + 1
  pub wrong : ((line : LineParts) × (more : List ℕ) × Begins p rest line more × (IsForFirst due line → ⊥)) ⊎ ((rest ≡ []) × (due ≢ []))

-- its node is due, and its verdict does not hold
pub record IsVerdictFault (p : ProblemParts) (log : List ℕ) (number : ℕ) : Type 0 where
  pub before : ℕ
  pub due : List (List ℕ)
  pub rest : List ℕ
  pub right : IsRightTo p log before due rest
  pub counted : number ≡ before + 1
  pub line : LineParts
  pub more : List ℕ
  pub begins : Begins p rest line more
  pub first : IsForFirst due line
  pub untrue : IsTrueLine p line → ⊥

-- the first place at which two texts differ, or the shorter one's length
pub record DifferFirst (text other : List ℕ) (place : ℕ) : Type 0 where
  pub within : place ≤ length text
  pub within_other : place ≤ length other
  pub alike : take place text ≡ take place other
  pub here : take (place + 1) text ≢ take (place + 1) other

-- the log passed, and the book differs from the text of what it proves, first at this byte
pub record IsBookFault (p : ProblemParts) (book log : List ℕ) (place : ℕ) : Type 0 where
  pub touches : List (List ℕ)
  pub proved : Proves p log touches
  pub differ : DifferFirst book (book_text p touches) place

-- a fault of an audit; `Form` is told by the top call alone
abbrev pub IsAuditFault : ProblemParts → List ℕ → List ℕ → AuditFault → Type 0
IsAuditFault p book log (fault.Form place) = ⊥
IsAuditFault p book log (fault.Line number) = IsLineFault p log number
IsAuditFault p book log (fault.Node number) = IsNodeFault p log number
IsAuditFault p book log (fault.Verdict number) = IsVerdictFault p log number
IsAuditFault p book log (fault.Book place) = IsBookFault p book log place
IsAuditFault p book log fault.NoMemory = Unit {0}

-- the book is the text of what the log proves, so many touches
pub record IsAudited (p : ProblemParts) (book log : List ℕ) (number : ℕ) : Type 0 where
  pub touches : List (List ℕ)
  pub proved : Proves p log touches
  pub text : book ≡ book_text p touches
  pub counted : number ≡ length touches

-- an answer of an audit
abbrev pub Audits : ProblemParts → List ℕ → List ℕ → Result ℕ AuditFault → Type 0
Audits p book log (Ok number) = IsAudited p book log number
Audits p book log (Err why) = IsAuditFault p book log why
