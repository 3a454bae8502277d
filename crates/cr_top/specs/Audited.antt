-- What an audit of three blocks answers.
use Rattle.std.specs.Prelude.{◌≡◌, ℕ, ◌<◌, ◌≤◌, List, [], ◌∷◌, ◌++◌, length, All, codes, Result, Ok, Err}
use Rattle.std.specs.Fmt.{decimal}
use Rattle.cr_model.specs.Problems.{ProblemParts}
use Rattle.cr_model.specs.ProblemFiles.{ProblemFile, FirstProblemFault}
use Rattle.cr_model.specs.declared.file_fault.ProblemFault.{ProblemFault}
use Rattle.cr_audit.specs.Audits.{Audits}
use Rattle.cr_audit.specs.declared.fault.AuditFault.{AuditFault}
use Rattle.cr_audit.specs.declared.fault.AuditFault.TheVariants as fault
use Rattle.cr_shard.specs.JoinFaults.{AreBodies}
use Rattle.cr_store.specs.Blocks.{blocks, IsBody, IsNext}
use Rattle.cr_store.specs.declared.blocks.Next.{Next}
use Rattle.cr_store.specs.declared.blocks.Next.TheVariants as next

-- behind so many whole blocks this is the last answer that is asked for: a block is one only as the fourth
abbrev pub IsLastAnswer : ℕ → Next → Type 0
IsLastAnswer many (next.Block place size) = many ≡ 3
IsLastAnswer many next.End = many ≤ 3
IsLastAnswer many next.Torn = many ≤ 3
IsLastAnswer many (next.Form place) = many ≤ 3

-- asked from block to block, and at most four times, a text has these whole blocks and then this answer
pub record EndsBehind (text : List ℕ) (before : List (List ℕ)) (last : Next) : Type 0 where
  pub are : All IsBody before
  pub rest : List ℕ
  pub is : text ≡ blocks before ++ rest
  pub here : IsNext text (length (blocks before)) last
  pub asked : IsLastAnswer (length before) last

-- the place at which a text of some bytes, with so many whole blocks up to a place and then this answer, is not three
-- blocks: that of the first byte that cannot be, the text's length where it is over too early, and the start of the fourth
-- block
abbrev pub IsWrongPlace : ℕ → ℕ → ℕ → Next → ℕ → Type 0
IsWrongPlace many at size (next.Block behind long) place = place ≡ at
IsWrongPlace many at size next.End place = (many < 3) × (place ≡ size)
IsWrongPlace many at size next.Torn place = place ≡ size
IsWrongPlace many at size (next.Form wrong) place = place ≡ wrong

-- the text is not three whole blocks, and this is the place that tells it
pub record NotThree (text : List ℕ) (place : ℕ) : Type 0 where
  pub before : List (List ℕ)
  pub last : Next
  pub ends : EndsBehind text before last
  pub wrong : IsWrongPlace (length before) (length (blocks before)) (length text) last place

-- the text is three blocks: a problem, a book and a log, on which an audit has this answer
pub record HasAnswer (text : List ℕ) (answer : Result ℕ AuditFault) : Type 0 where
  pub bytes : List ℕ
  pub book : List ℕ
  pub log : List ℕ
  pub are : AreBodies text (bytes ∷ book ∷ log ∷ [])
  pub p : ProblemParts
  pub file : ProblemFile bytes p
  pub audits : Audits p book log answer

-- the text is three blocks: a problem, its book as its text, which has so many touches, and a log that proves it
abbrev pub IsAuditOf : List ℕ → ℕ → Type 0
IsAuditOf text number = HasAnswer text (Ok number)

-- the fault is that of the first check that does not hold
abbrev pub FirstAuditFault : List ℕ → AuditFault → Type 0
FirstAuditFault text (fault.Form place) = NotThree text place
FirstAuditFault text (fault.Line number) = HasAnswer text (Err (fault.Line number))
FirstAuditFault text (fault.Node number) = HasAnswer text (Err (fault.Node number))
FirstAuditFault text (fault.Verdict number) = HasAnswer text (Err (fault.Verdict number))
FirstAuditFault text (fault.Book place) = HasAnswer text (Err (fault.Book place))
FirstAuditFault text fault.NoMemory = ⊥

-- the text is three blocks, the first of which is no problem for this reason
pub record HasNoProblem (text : List ℕ) (why : ProblemFault) : Type 0 where
  pub bytes : List ℕ
  pub book : List ℕ
  pub log : List ℕ
  pub are : AreBodies text (bytes ∷ book ∷ log ∷ [])
  pub wrong : FirstProblemFault bytes why

-- the line of an audit that says yes
abbrev pub audit_line : ℕ → List ℕ
audit_line number = codes "audit yes " ++ (decimal number ++ codes "\n")
