-- The parts of a search, and why each of them was not done.
use Rattle.std.specs.Prelude.{◌≡◌, ℕ, ⊤, List, Option, None, Result, Ok, Err, Vec}
use Rattle.std.specs.declared.alloc.Global.{Global}
use Rattle.cr_audit.specs.declared.fault.AuditFault.{AuditFault}
use Rattle.cr_audit.specs.declared.fault.AuditFault.TheVariants as audit
use Rattle.cr_io.specs.declared.reading.ReadEnd.{ReadEnd}
use Rattle.cr_io.specs.declared.reading.ReadEnd.TheVariants as end
use Rattle.cr_explore.specs.Searches.{searched}
use Rattle.cr_model.specs.Checkpoints.{IsCheckpoint}
use Rattle.cr_shard.specs.JoinFaults.{FirstJoinFault}
use Rattle.cr_shard.specs.declared.fault.JoinFault.{JoinFault}
use Rattle.cr_shard.specs.declared.fault.JoinFault.TheVariants as fault
use Rattle.cr_store.specs.Written.{lists}
use Rattle.cr_top.specs.Audited.{FirstAuditFault, HasNoProblem}
use Rattle.cr_top.specs.Streams.{Reading, Writing, WasRead, WasWritten, WasCutOff}
use Rattle.cr_top.specs.Texts.{IsReached, IsTextOf, IsNoProblem, IsNoCheckpoint}
use Rattle.cr_top.specs.Starts.{IsStart}
use Rattle.cr_trail.specs.declared.trail.TrailEnd.{TrailEnd}
use Rattle.cr_trail.specs.declared.trail.TrailEnd.TheVariants as trail
use Rattle.cr_top.specs.Endings.{GetsNoInput, GetsNoBytes, status_of}
use Rattle.cr_top.specs.declared.start.Start.{Start}
use Rattle.cr_top.specs.declared.refusal.Refusal.{Refusal}
use Rattle.cr_top.specs.declared.refusal.Refusal.TheVariants as refusal
use Rattle.cr_top.specs.declared.preparing.Prepared.{Prepared}

-- the refusal of a source that was not read whole
abbrev pub refusal_of : ReadEnd → Refusal
refusal_of end.ReadFault = refusal.ReadFault
refusal_of end.TooLong = refusal.TooLong
refusal_of end.NoMemory = refusal.NoMemory

-- the trail was written whole, or it was not for this reason
abbrev pub trail_result : TrailEnd → Result (Option ℕ) Refusal
trail_result trail.Done = Ok None
trail_result trail.WriteFault = Err refusal.WriteFault
trail_result trail.NoMemory = Err refusal.NoMemory

-- the refusal of shards that were not joined
abbrev pub join_refusal : JoinFault → Refusal
join_refusal fault.NoMemory = refusal.NoMemory
join_refusal why = refusal.Join why

-- the bytes can't be joined for this reason, or there was not enough memory
abbrev pub IsUnjoined : List ℕ → Refusal → Type 0
IsUnjoined input (refusal.Join why) = FirstJoinFault input why
IsUnjoined input refusal.NoMemory = ⊤
IsUnjoined input why = ⊥

-- the refusal of an audit that does not say yes
abbrev pub audit_refusal : AuditFault → Refusal
audit_refusal audit.NoMemory = refusal.NoMemory
audit_refusal why = refusal.Audit why

-- the input is no problem for this reason, or there was not enough memory
abbrev pub IsUnlogged : List ℕ → Refusal → Type 0
IsUnlogged input (refusal.Problem why) = IsNoProblem input why
IsUnlogged input refusal.NotProblem = IsCheckpoint input
IsUnlogged input refusal.NoMemory = ⊤
IsUnlogged input why = ⊥

-- an audit of the bytes does not say yes for this reason, or there was not enough memory
abbrev pub IsUnaudited : List ℕ → Refusal → Type 0
IsUnaudited input (refusal.Audit why) = FirstAuditFault input why
IsUnaudited input (refusal.Problem why) = HasNoProblem input why
IsUnaudited input refusal.NoMemory = ⊤
IsUnaudited input why = ⊥

-- the input was read whole, or it was not for this reason
abbrev pub ReadsInput : {S : Type 0} → Reading S → Result (Vec ℕ Global) Refusal → Type 0
ReadsInput source (Ok input) = WasRead source input.items
ReadsInput source (Err why) = GetsNoBytes source (status_of (Err why))

-- an input says nothing for this reason, or there was not enough memory
abbrev pub IsUnstarted : List ℕ → Refusal → Type 0
IsUnstarted input (refusal.Problem fault) = IsNoProblem input fault
IsUnstarted input (refusal.Checkpoint fault) = IsNoCheckpoint input fault
IsUnstarted input refusal.NoMemory = ⊤
IsUnstarted input why = ⊥

-- what an input says, or why it is none
abbrev pub StartsFrom : List ℕ → Result Start Refusal → Type 0
StartsFrom input (Ok start) = IsStart input start.bytes.items start.problem start.left.found.items (lists start.left.jobs.items)
StartsFrom input (Err why) = IsUnstarted input why

-- the search of an input that was read, or why there is none
abbrev pub Prepares : {S : Type 0} → Reading S → Result Prepared Refusal → Type 0
Prepares source (Ok prepared) = (input : List ℕ) × WasRead source input × StartsFrom input (Ok prepared.start)
    × (searched prepared.search ≡ prepared.start.problem)
Prepares source (Err why) = GetsNoInput source (status_of (Err why))

-- the text that belongs to an input was written, after so many turns where the search stopped, or it was not for this reason
abbrev pub WritesSearch : {K : Type 0} → Writing K → Option ℕ → List ℕ → Result (Option ℕ) Refusal → Type 0
WritesSearch sink turns input (Ok stopped) = (text : List ℕ) × IsReached turns input text stopped × WasWritten sink text
WritesSearch sink turns input (Err refusal.WriteFault) = (text : List ℕ) × IsTextOf turns input text × WasCutOff sink text
WritesSearch sink turns input (Err refusal.NoMemory) = sink.new ≡ sink.old
WritesSearch sink turns input (Err why) = ⊥
