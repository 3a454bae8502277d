-- The line on standard error for each status.
use Rattle.std.specs.Prelude.{ℕ, ℤ, ◌&&◌, cond, nat_le, List, [], ◌∷◌, ◌++◌, map, codes}
use Rattle.std.specs.Fmt.{decimal, signed_decimal}
use Rattle.cr_model.specs.declared.fault.CountAt.{CountAt}
use Rattle.cr_model.specs.declared.fault.CountAt.TheVariants as counted
use Rattle.cr_model.specs.declared.notation.NotationFault.{NotationFault}
use Rattle.cr_model.specs.declared.notation.NotationFault.TheVariants as notation
use Rattle.cr_model.specs.declared.file_fault.Whose.{Whose}
use Rattle.cr_model.specs.declared.file_fault.Whose.TheVariants as owner
use Rattle.cr_model.specs.declared.file_fault.ProblemFault.{ProblemFault}
use Rattle.cr_model.specs.declared.file_fault.ProblemFault.TheVariants as fault
use Rattle.cr_audit.specs.declared.fault.AuditFault.{AuditFault}
use Rattle.cr_audit.specs.declared.fault.AuditFault.TheVariants as audit
use Rattle.cr_shard.specs.declared.fault.JoinFault.{JoinFault}
use Rattle.cr_shard.specs.declared.fault.JoinFault.TheVariants as join
use Rattle.cr_store.specs.declared.fault.CheckFault.{CheckFault}
use Rattle.cr_store.specs.declared.fault.CheckFault.TheVariants as check
use Rattle.cr_trail.specs.declared.last.TrailFault.{TrailFault}
use Rattle.cr_trail.specs.declared.last.TrailFault.TheVariants as trail
use Rattle.cr_words.specs.declared.fault.WordsFault.{WordsFault}
use Rattle.cr_words.specs.declared.fault.WordsFault.TheVariants as wrong
use Rattle.cr_top.specs.declared.status.Status.{Status}
use Rattle.cr_top.specs.declared.status.Status.TheVariants as status

-- one space, and a number
abbrev pub number : ℕ → List ℕ
number n = codes " " ++ decimal n

-- one space, and a number that may be negative
abbrev pub signed : ℤ → List ℕ
signed z = codes " " ++ signed_decimal z

-- a byte as it is printed: outside 33 to 126 it is `?`
abbrev pub shown : ℕ → ℕ
shown byte = cond (nat_le 33 byte && nat_le byte 126) byte 63

-- one space, and the path of a key
abbrev pub path : List ℕ → List ℕ
path bytes = codes " " ++ map shown bytes

-- one space, and the method or the call that has a notation
abbrev pub whose : Whose → List ℕ
whose (owner.Method index) = codes " method" ++ number index
whose (owner.Call index) = codes " call" ++ number index

-- one space, and why a text is no place notation
abbrev pub notation_words : NotationFault → List ℕ
notation_words (notation.Symbol place) = codes " Symbol" ++ number place
notation_words (notation.Above place) = codes " Above" ++ number place
notation_words (notation.Order place) = codes " Order" ++ number place
notation_words (notation.Gap place) = codes " Gap" ++ number place
notation_words (notation.CrossOnOdd place) = codes " CrossOnOdd" ++ number place
notation_words (notation.Dot place) = codes " Dot" ++ number place
notation_words (notation.EmptyBlock place) = codes " EmptyBlock" ++ number place
notation_words (notation.SecondComma place) = codes " SecondComma" ++ number place
notation_words (notation.Long place) = codes " Long" ++ number place
notation_words notation.NoMemory = codes " NoMemory"

-- one space, and an item of `counts` or of `method_counts`
abbrev pub count : CountAt → List ℕ
count (counted.Mark index) = codes " count" ++ number index
count (counted.Method index) = codes " leads" ++ number index

-- the number, the name and the details of a fault
abbrev pub problem_words : ProblemFault → List ℕ
problem_words fault.NotToml = codes "1 NotToml"
problem_words (fault.Key key) = codes "2 Key" ++ path key
problem_words (fault.Stage stage) = codes "3 Stage" ++ signed stage
problem_words (fault.Letter method) = codes "4 Letter" ++ number method
problem_words (fault.Notation owner wrong) = codes "5 Notation" ++ (whose owner ++ notation_words wrong)
problem_words (fault.Over call) = codes "6 Over" ++ number call
problem_words (fault.Mark call) = codes "7 Mark" ++ number call
problem_words (fault.CallLength call method) = codes "8 CallLength" ++ (number call ++ number method)
problem_words (fault.Clash first second) = codes "9 Clash" ++ (number first ++ number second)
problem_words (fault.Steps leads) = codes "10 Steps" ++ number leads
problem_words (fault.Range low high) = codes "11 Range" ++ (signed low ++ signed high)
problem_words (fault.Deep depth) = codes "12 Deep" ++ number depth
problem_words (fault.Parts parts) = codes "13 Parts" ++ signed parts
problem_words (fault.Count item) = codes "14 Count" ++ count item
problem_words (fault.Pattern index) = codes "15 Pattern" ++ number index
problem_words fault.NoMemory = codes "16 NoMemory"
problem_words fault.Com = codes "17 Com"

-- the number and the name of a fault of the command line
abbrev pub fault_words : WordsFault → List ℕ
fault_words wrong.Line = codes "1 Line"
fault_words wrong.Workers = codes "2 Workers"
fault_words wrong.Turns = codes "3 Turns"
fault_words wrong.Number = codes "4 Number"
fault_words wrong.Mode = codes "5 Mode"
fault_words wrong.Mixed = codes "6 Mixed"
fault_words wrong.NoMemory = codes "7 NoMemory"
fault_words wrong.Every = codes "8 Every"
fault_words wrong.Into = codes "9 Into"

-- the number, the name and the details of a fault of a checkpoint; of its problem's fault again number, name and details
abbrev pub check_words : CheckFault → List ℕ
check_words (check.Form at) = codes "1 Form" ++ number at
check_words (check.Problem wrong) = codes "2 Problem " ++ problem_words wrong
check_words (check.Calling at) = codes "3 Calling" ++ number at
check_words (check.NodeLong at) = codes "4 NodeLong" ++ number at
check_words (check.NotKept at) = codes "5 NotKept" ++ number at
check_words (check.FoundOrder at) = codes "6 FoundOrder" ++ number at
check_words (check.Overlap earlier at) = codes "7 Overlap" ++ (number earlier ++ number at)
check_words check.NoMemory = codes "8 NoMemory"

-- the number, the name and the details of why a text has no last block
abbrev pub trail_words : TrailFault → List ℕ
trail_words (trail.Form at) = codes "1 Form" ++ number at
trail_words trail.Nothing = codes "2 Nothing"

-- the number, the name and the details of why shards can't be joined; of the fault of a checkpoint again number, name and
-- details
abbrev pub join_words : JoinFault → List ℕ
join_words (join.Form at) = codes "1 Form" ++ number at
join_words (join.Blocks many) = codes "2 Blocks" ++ number many
join_words (join.Check body wrong) = codes "3 Check" ++ (number body ++ (codes " " ++ check_words wrong))
join_words (join.OtherProblem body at) = codes "4 OtherProblem" ++ (number body ++ number at)
join_words (join.Overlap one other) = codes "5 Overlap" ++ (number one ++ number other)
join_words join.NoMemory = codes "6 NoMemory"

-- the number, the name and the details of why an audit does not say yes
abbrev pub audit_words : AuditFault → List ℕ
audit_words (audit.Form at) = codes "1 Form" ++ number at
audit_words (audit.Line at) = codes "2 Line" ++ number at
audit_words (audit.Node at) = codes "3 Node" ++ number at
audit_words (audit.Verdict at) = codes "4 Verdict" ++ number at
audit_words (audit.Book at) = codes "5 Book" ++ number at
audit_words audit.NoMemory = codes "6 NoMemory"

-- the program's name, the words, and a line feed
abbrev pub line : List ℕ → List ℕ
line words = codes "ringsearch: " ++ (words ++ (10 ∷ []))

-- the line of a status, and nothing where the run finished
abbrev pub note_line : Status → List ℕ
note_line status.Finished = []
note_line (status.Words fault) = line (codes "words " ++ fault_words fault)
note_line (status.Stopped turns) = line (codes "stopped after " ++ (decimal turns ++ codes " turns"))
note_line (status.Problem fault) = line (codes "problem " ++ problem_words fault)
note_line (status.Checkpoint fault) = line (codes "checkpoint " ++ check_words fault)
note_line status.ReadFault = line (codes "read failed")
note_line status.WriteFault = line (codes "write failed")
note_line status.NoMemory = line (codes "no memory")
note_line status.TooLong = line (codes "input too long")
note_line (status.Trail fault) = line (codes "trail " ++ trail_words fault)
note_line (status.Join fault) = line (codes "join " ++ join_words fault)
note_line (status.Audit fault) = line (codes "audit " ++ audit_words fault)
note_line status.NotProblem = line (codes "not a problem")
