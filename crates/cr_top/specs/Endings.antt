-- What each ending of the program says of the words, the input, the source and the sink.
use Rattle.std.specs.Prelude.{◌≡◌, ⊤, ℕ, ◌^◌, ◌<◌, ◌≤◌, ◌⊎◌, List, [], length, take, drop, Option, Some, None, Result, Ok, Err}
use Rattle.clap.specs.Words.{Text}
use Rattle.cr_io.specs.Causes.{Rose}
use Rattle.cr_io.specs.Ends.{TookAtMost, TookMore}
use Rattle.cr_model.specs.Checkpoints.{IsCheckpoint}
use Rattle.cr_model.specs.Problems.{ProblemParts}
use Rattle.cr_shard.specs.JoinFaults.{IsJoin, FirstJoinFault}
use Rattle.cr_store.specs.Blocks.{blocks}
use Rattle.cr_trail.specs.Lasts.{IsLast}
use Rattle.cr_trail.specs.Trails.{IsTrail, LeavesNone}
use Rattle.cr_words.specs.Readings.{IsAccepted, IsWordsFaultOf}
use Rattle.cr_words.specs.declared.fault.WordsFault.{WordsFault}
use Rattle.cr_words.specs.declared.wish.Wish.{Wish}
use Rattle.cr_words.specs.declared.wish.Mode.{Mode}
use Rattle.cr_words.specs.declared.wish.Mode.TheVariants as mode
use Rattle.cr_top.specs.Audited.{IsAuditOf, FirstAuditFault, HasNoProblem, audit_line}
use Rattle.cr_top.specs.Logged.{IsLogOf}
use Rattle.cr_top.specs.Made.{IsSummaryOf}
use Rattle.cr_top.specs.Shards.{IsCutOf}
use Rattle.cr_top.specs.Streams.{Reading, Writing, WasRead, WasWritten, WasCutOff}
use Rattle.cr_top.specs.Texts.{IsBookOf, IsStopOf, IsTextOf, IsNoProblem, IsNoCheckpoint}
use Rattle.cr_top.specs.declared.refusal.Refusal.{Refusal}
use Rattle.cr_top.specs.declared.refusal.Refusal.TheVariants as refusal
use Rattle.cr_top.specs.declared.status.Status.{Status}
use Rattle.cr_top.specs.declared.status.Status.TheVariants as ended

-- the words wish for a search that may take so many turns, where they say how many
abbrev pub AsksSearch : List Text → Option ℕ → Type 0
AsksSearch words turns = (workers : ℕ) × IsAccepted words (record { workers = workers; turns = turns; mode = mode.Search })

-- the words wish for the problem that is made of a number
abbrev pub AsksMake : List Text → ℕ → Type 0
AsksMake words number = (workers : ℕ) × (turns : Option ℕ) × IsAccepted words (record { workers = workers; turns = turns; mode = mode.Make number })

-- the words wish for a search that writes a checkpoint after each so many turns
abbrev pub AsksTrail : List Text → ℕ → Type 0
AsksTrail words every = (workers : ℕ) × (turns : Option ℕ) × IsAccepted words (record { workers = workers; turns = turns; mode = mode.Trail every })

-- a checkpoint of a trail comes after one turn or more
abbrev pub HasTurns : Mode → Type 0
HasTurns (mode.Trail every) = 1 ≤ every
HasTurns wished = ⊤

-- the words wish for the last checkpoint of a trail
abbrev pub AsksLast : List Text → Type 0
AsksLast words = (workers : ℕ) × (turns : Option ℕ) × IsAccepted words (record { workers = workers; turns = turns; mode = mode.Last })

-- the words wish to cut an input into so many shards
abbrev pub AsksCut : List Text → ℕ → Type 0
AsksCut words into = (workers : ℕ) × (turns : Option ℕ) × IsAccepted words (record { workers = workers; turns = turns; mode = mode.Cut into })

-- there is one shard or more
abbrev pub HasShards : Mode → Type 0
HasShards (mode.Cut into) = 1 ≤ into
HasShards wished = ⊤

-- the words wish to join shards
abbrev pub AsksJoin : List Text → Type 0
AsksJoin words = (workers : ℕ) × (turns : Option ℕ) × IsAccepted words (record { workers = workers; turns = turns; mode = mode.Join })

-- the words wish for the log of a whole search
abbrev pub AsksLog : List Text → Type 0
AsksLog words = (workers : ℕ) × (turns : Option ℕ) × IsAccepted words (record { workers = workers; turns = turns; mode = mode.Log })

-- the words wish for the audit of a book by such a log
abbrev pub AsksAudit : List Text → Type 0
AsksAudit words = (workers : ℕ) × (turns : Option ℕ) × IsAccepted words (record { workers = workers; turns = turns; mode = mode.Audit })

-- the status of a call that wrote its text whole, after so many turns where it stopped, or was refused
abbrev pub status_of : Result (Option ℕ) Refusal → Status
status_of (Ok None) = ended.Finished
status_of (Ok (Some after)) = ended.Stopped after
status_of (Err (refusal.Words fault)) = ended.Words fault
status_of (Err (refusal.Problem fault)) = ended.Problem fault
status_of (Err (refusal.Checkpoint fault)) = ended.Checkpoint fault
status_of (Err refusal.ReadFault) = ended.ReadFault
status_of (Err refusal.WriteFault) = ended.WriteFault
status_of (Err refusal.NoMemory) = ended.NoMemory
status_of (Err refusal.TooLong) = ended.TooLong
status_of (Err (refusal.Trail fault)) = ended.Trail fault
status_of (Err (refusal.Join fault)) = ended.Join fault
status_of (Err (refusal.Audit fault)) = ended.Audit fault
status_of (Err refusal.NotProblem) = ended.NotProblem

-- a call got no input.
-- Problem, Checkpoint: the source was read to its end, and what was left in it is no problem, or no checkpoint, for
-- this reason. ReadFault: a read failed. TooLong: more than 2^40 bytes were taken, and on no other status.
-- NoMemory: no read failed
abbrev pub GetsNoInput : {S : Type 0} → Reading S → Status → Type 0
GetsNoInput source (ended.Problem fault) = (input : List ℕ) × WasRead source input × IsNoProblem input fault
GetsNoInput source (ended.Checkpoint fault) = (input : List ℕ) × WasRead source input × IsNoCheckpoint input fault
GetsNoInput source ended.ReadFault =
    TookAtMost source.took source.old source.new (2 ^ 40) × Rose (source.faults source.old) (source.faults source.new)
GetsNoInput source ended.TooLong =
    TookMore source.took source.old source.new (2 ^ 40) × (source.faults source.new ≡ source.faults source.old)
GetsNoInput source ended.NoMemory =
    TookAtMost source.took source.old source.new (2 ^ 40) × (source.faults source.new ≡ source.faults source.old)
GetsNoInput source status = ⊥

-- how a search ends that may take so many turns.
-- Finished: the source was read to its end, and the sink grew by the text of the book of what was left in it.
-- Stopped: the same, but for a checkpoint after exactly the turns that are allowed.
-- WriteFault: the source was read to its end, the sink grew by a front of the text that belongs to what was left in it,
-- and its count of faults rose.
-- On every other status there was no input, or no memory for its search, and the sink is left as it was
abbrev pub EndsSearch : {S K : Type 0} → Reading S → Writing K → Option ℕ → Status → Type 0
EndsSearch source sink turns ended.Finished =
    (input text : List ℕ) × WasRead source input × IsBookOf turns input text × WasWritten sink text
EndsSearch source sink turns (ended.Stopped after) =
    (input text : List ℕ) × WasRead source input × (turns ≡ Some after) × IsStopOf after input text × WasWritten sink text
EndsSearch source sink turns ended.WriteFault =
    (input text : List ℕ) × WasRead source input × IsTextOf turns input text × WasCutOff sink text
EndsSearch source sink turns status = GetsNoInput source status × (sink.new ≡ sink.old)

-- how a call ends that makes the problem of a number: its summary was written, or a front of it and a write failed, or
-- there was not enough memory and the sink is left as it was
abbrev pub EndsMake : {K : Type 0} → Writing K → ℕ → Status → Type 0
EndsMake sink number ended.Finished = (text : List ℕ) × IsSummaryOf number text × WasWritten sink text
EndsMake sink number ended.WriteFault = (text : List ℕ) × IsSummaryOf number text × WasCutOff sink text
EndsMake sink number ended.NoMemory = sink.new ≡ sink.old
EndsMake sink number status = ⊥

-- the last checkpoint of a trail has no node
abbrev pub HasNoNode : List (List ℕ) → Type 0
HasNoNode trail = (bytes : List ℕ) × (p : ProblemParts) × LeavesNone p bytes trail

-- the source was read to its end, and the sink grew by the blocks of a trail of what was left in it
abbrev pub WroteTrail : {S K : Type 0} → Reading S → Writing K → ℕ → Type 0
WroteTrail source sink every =
    (input : List ℕ) × (trail : List (List ℕ)) × WasRead source input × IsTrail input every trail × WasWritten sink (blocks trail)

-- how a search ends that writes a checkpoint after each so many turns.
-- Finished: the source was read to its end, and the sink grew by the blocks of a trail of what was left in it, whose last
-- checkpoint has no node.
-- WriteFault: the source was read to its end, the sink grew by a front of the blocks of a trail of what was left in it,
-- and its count of faults rose.
-- NoMemory: there was not enough, and the sink grew by nothing, or by the blocks of a trail of what was left in the source.
-- On every other status there was no input, and the sink is left as it was
abbrev pub EndsTrail : {S K : Type 0} → Reading S → Writing K → ℕ → Status → Type 0
EndsTrail source sink every ended.Finished =
    (input : List ℕ) × (trail : List (List ℕ)) × WasRead source input × IsTrail input every trail × HasNoNode trail × WasWritten sink (blocks trail)
EndsTrail source sink every ended.WriteFault =
    (input : List ℕ) × (trail : List (List ℕ)) × WasRead source input × IsTrail input every trail × WasCutOff sink (blocks trail)
EndsTrail source sink every ended.NoMemory =
    (GetsNoInput source ended.NoMemory × WasWritten sink []) ⊎ WroteTrail source sink every
EndsTrail source sink every status = GetsNoInput source status × (sink.new ≡ sink.old)

-- a call that takes any bytes got none: a read failed, or there were too many, or there was not enough memory
abbrev pub GetsNoBytes : {S : Type 0} → Reading S → Status → Type 0
GetsNoBytes source ended.ReadFault = GetsNoInput source ended.ReadFault
GetsNoBytes source ended.TooLong = GetsNoInput source ended.TooLong
GetsNoBytes source ended.NoMemory = GetsNoInput source ended.NoMemory
GetsNoBytes source status = ⊥

-- the last body of a text, by its place and how many bytes it has
abbrev pub body_in : List ℕ → ℕ × ℕ → List ℕ
body_in text last = take last.1 (drop last.0 text)

-- how a call ends that writes the last checkpoint of a trail.
-- Finished: the source was read to its end, and the sink grew by the last whole body of what was left in it.
-- Trail: the source was read to its end, and what was left in it has no last whole body, for this reason.
-- WriteFault: the source was read to its end, the sink grew by a front of the last whole body of what was left in it, and
-- its count of faults rose.
-- On every other status there were no bytes, or not enough memory. On Trail and these the sink is left as it was
abbrev pub EndsLast : {S K : Type 0} → Reading S → Writing K → Status → Type 0
EndsLast source sink ended.Finished =
    (input : List ℕ) × (last : ℕ × ℕ) × WasRead source input × IsLast input (Ok last) × WasWritten sink (body_in input last)
EndsLast source sink (ended.Trail fault) =
    (input : List ℕ) × WasRead source input × IsLast input (Err fault) × (sink.new ≡ sink.old)
EndsLast source sink ended.WriteFault =
    (input : List ℕ) × (last : ℕ × ℕ) × WasRead source input × IsLast input (Ok last) × WasCutOff sink (body_in input last)
EndsLast source sink status = GetsNoBytes source status × (sink.new ≡ sink.old)

-- how a call ends that cuts an input into so many shards.
-- Finished: the source was read to its end, and the sink grew by the blocks of the shards of what was left in it.
-- WriteFault: the source was read to its end, the sink grew by a front of the blocks of the shards of what was left in it,
-- and its count of faults rose.
-- On every other status there was no input, or no memory for its shards, and the sink is left as it was
abbrev pub EndsCut : {S K : Type 0} → Reading S → Writing K → ℕ → Status → Type 0
EndsCut source sink into ended.Finished =
    (input text : List ℕ) × WasRead source input × IsCutOf into input text × WasWritten sink text
EndsCut source sink into ended.WriteFault =
    (input text : List ℕ) × WasRead source input × IsCutOf into input text × WasCutOff sink text
EndsCut source sink into status = GetsNoInput source status × (sink.new ≡ sink.old)

-- how a call ends that joins shards.
-- Finished: the source was read to its end, what was left in it is blocks of checkpoints, and the sink grew by these joined.
-- Join: the source was read to its end, and what was left in it can't be joined, for this reason.
-- WriteFault: the source was read to its end, the sink grew by a front of the checkpoints in it joined, and its count of
-- faults rose.
-- On every other status there were no bytes, or not enough memory. On Join and these the sink is left as it was
abbrev pub EndsJoin : {S K : Type 0} → Reading S → Writing K → Status → Type 0
EndsJoin source sink ended.Finished =
    (input joined : List ℕ) × WasRead source input × IsJoin input joined × WasWritten sink joined
EndsJoin source sink (ended.Join fault) =
    (input : List ℕ) × WasRead source input × FirstJoinFault input fault × (sink.new ≡ sink.old)
EndsJoin source sink ended.WriteFault =
    (input joined : List ℕ) × WasRead source input × IsJoin input joined × WasCutOff sink joined
EndsJoin source sink status = GetsNoBytes source status × (sink.new ≡ sink.old)

-- how a call ends that writes the log of a whole search.
-- Finished: the source was read to its end, what was left in it is a problem, and the sink grew by the blocks of the
-- problem, its book and a log that proves the book.
-- Problem, NotProblem: the source was read to its end, and what was left in it is no problem, for this reason; or it begins
-- as a checkpoint.
-- WriteFault: the source was read to its end, the sink grew by a front of such blocks, and its count of faults rose.
-- On every other status there were no bytes, or not enough memory. On Problem, NotProblem and these the sink is left as it
-- was
abbrev pub EndsLog : {S K : Type 0} → Reading S → Writing K → Status → Type 0
EndsLog source sink ended.Finished =
    (input text : List ℕ) × WasRead source input × IsLogOf input text × WasWritten sink text
EndsLog source sink (ended.Problem fault) =
    (input : List ℕ) × WasRead source input × IsNoProblem input fault × (sink.new ≡ sink.old)
EndsLog source sink ended.NotProblem =
    (input : List ℕ) × WasRead source input × IsCheckpoint input × (sink.new ≡ sink.old)
EndsLog source sink ended.WriteFault =
    (input text : List ℕ) × WasRead source input × IsLogOf input text × WasCutOff sink text
EndsLog source sink status = GetsNoBytes source status × (sink.new ≡ sink.old)

-- how a call ends that audits a book.
-- Finished: the source was read to its end, what was left in it is three blocks, of a problem, a book and a log that
-- proves the book, and the sink grew by the line with the number of the book's touches.
-- Audit, Problem: the source was read to its end, and what was left in it has this fault; or its first block is no problem,
-- for this reason.
-- WriteFault: the source was read to its end, the sink grew by a front of such a line, and its count of faults rose.
-- On every other status there were no bytes, or not enough memory. On Audit, Problem and these the sink is left as it was
abbrev pub EndsAudit : {S K : Type 0} → Reading S → Writing K → Status → Type 0
EndsAudit source sink ended.Finished =
    (input : List ℕ) × (number : ℕ) × WasRead source input × IsAuditOf input number × WasWritten sink (audit_line number)
EndsAudit source sink (ended.Audit fault) =
    (input : List ℕ) × WasRead source input × FirstAuditFault input fault × (sink.new ≡ sink.old)
EndsAudit source sink (ended.Problem fault) =
    (input : List ℕ) × WasRead source input × HasNoProblem input fault × (sink.new ≡ sink.old)
EndsAudit source sink ended.WriteFault =
    (input : List ℕ) × (number : ℕ) × WasRead source input × IsAuditOf input number × WasCutOff sink (audit_line number)
EndsAudit source sink status = GetsNoBytes source status × (sink.new ≡ sink.old)

-- how a call for a wish ends, by its mode. One that makes a problem leaves the source as it was
abbrev pub EndsWish : {S K : Type 0} → Reading S → Writing K → Mode → Option ℕ → Status → Type 0
EndsWish source sink mode.Search turns status = EndsSearch source sink turns status
EndsWish source sink (mode.Make number) turns status = (source.new ≡ source.old) × EndsMake sink number status
EndsWish source sink (mode.Trail every) turns status = EndsTrail source sink every status
EndsWish source sink mode.Last turns status = EndsLast source sink status
EndsWish source sink (mode.Cut into) turns status = EndsCut source sink into status
EndsWish source sink mode.Join turns status = EndsJoin source sink status
EndsWish source sink mode.Log turns status = EndsLog source sink status
EndsWish source sink mode.Audit turns status = EndsAudit source sink status

-- how a call ends whose words have a fault: it is told, or there was not enough memory, and source and sink are left as
-- they were
pub record IsTurnedAway {S K : Type 0} (source : Reading S) (sink : Writing K) (words : List Text) (status : Status) : Type 0 where
  pub fault : WordsFault
  pub is : IsWordsFaultOf words fault
  pub tells : (status ≡ ended.Words fault) ⊎ (status ≡ ended.NoMemory)
  pub unread : source.new ≡ source.old
  pub unwritten : sink.new ≡ sink.old

-- how a call of the program ends: as the wish does that its words are accepted as, or as one whose words have a fault
abbrev pub Ends : {S K : Type 0} → Reading S → Writing K → List Text → Status → Type 0
Ends source sink words status =
    ((wish : Wish) × IsAccepted words wish × EndsWish source sink wish.mode wish.turns status)
    ⊎ IsTurnedAway source sink words status

-- the refusal that an input of a search is due: it is no problem or no checkpoint, or longer than is read
abbrev pub IsDue : List ℕ → Status → Type 0
IsDue input (ended.Problem fault) = (length input ≤ 2 ^ 40) × IsNoProblem input fault
IsDue input (ended.Checkpoint fault) = (length input ≤ 2 ^ 40) × IsNoCheckpoint input fault
IsDue input ended.TooLong = 2 ^ 40 < length input
IsDue input status = ⊥

-- the refusal that the bytes of a trail are due: they have no last whole body, or are more than are read
abbrev pub IsLastDue : List ℕ → Status → Type 0
IsLastDue input (ended.Trail fault) = (length input ≤ 2 ^ 40) × IsLast input (Err fault)
IsLastDue input ended.TooLong = 2 ^ 40 < length input
IsLastDue input status = ⊥

-- the refusal that the bytes of shards are due: they can't be joined, or are more than are read
abbrev pub IsJoinDue : List ℕ → Status → Type 0
IsJoinDue input (ended.Join fault) = (length input ≤ 2 ^ 40) × FirstJoinFault input fault
IsJoinDue input ended.TooLong = 2 ^ 40 < length input
IsJoinDue input status = ⊥

-- the refusal that an input is due of which a log is asked: it begins as a checkpoint, is no problem, or is longer than is
-- read
abbrev pub IsLogDue : List ℕ → Status → Type 0
IsLogDue input (ended.Problem fault) = (length input ≤ 2 ^ 40) × IsNoProblem input fault
IsLogDue input ended.NotProblem = (length input ≤ 2 ^ 40) × IsCheckpoint input
IsLogDue input ended.TooLong = 2 ^ 40 < length input
IsLogDue input status = ⊥

-- the refusal that bytes are due of which an audit is asked: they have a fault, their first block is no problem, or they
-- are more than are read
abbrev pub IsAuditDue : List ℕ → Status → Type 0
IsAuditDue input (ended.Audit fault) = (length input ≤ 2 ^ 40) × FirstAuditFault input fault
IsAuditDue input (ended.Problem fault) = (length input ≤ 2 ^ 40) × HasNoProblem input fault
IsAuditDue input ended.TooLong = 2 ^ 40 < length input
IsAuditDue input status = ⊥
