-- What a call that writes a log ends with where no read and no write failed.
use Rattle.std.proofs.Common.{◌≡◌, ℕ, ◌^◌, ◌≤◌, ◌⊎◌, List, length, Some, inl, inr, refl, sym, ap, ◌∙◌, subst, arith}
use Rattle.std.specs.Io.KnownBytes.{Consumes}
use Rattle.cr_io.specs.Causes.{Rose}
use Rattle.cr_io.specs.Ends.{TookMore}
use Rattle.cr_model.specs.Problems.{ProblemParts}
use Rattle.cr_model.specs.Checkpoints.{IsCheckpoint}
use Rattle.cr_model.specs.ProblemFiles.{ProblemFile, FirstProblemFault}
use Rattle.cr_model.specs.declared.file_fault.ProblemFault.{ProblemFault}
use Rattle.cr_top.specs.declared.status.Status.{Status}
use Rattle.cr_top.specs.declared.status.Status.TheVariants as ended
use Rattle.cr_top.specs.Logged.{IsLogOf}
use Rattle.cr_top.specs.Streams.{Reading, Writing, WasRead}
use Rattle.cr_top.specs.Texts.{IsNoProblem}
use Rattle.cr_top.specs.Endings.{IsLogDue, EndsLog}
use Rattle.cr_top.proofs.Completeness.{taken_of_told, the_input}
use Rattle.cr_top.proofs.ToldAnswers.{Tells, IsOwed, told_finished, told_refused}

-- what the law on problem files says
pub record OneFile : Type 0 where
  pub one_fault : (bytes : List ℕ) (one other : ProblemFault) → FirstProblemFault bytes one → FirstProblemFault bytes other → one ≡ other
  pub never_both : (bytes : List ℕ) (p : ProblemParts) (why : ProblemFault) → ProblemFile bytes p → FirstProblemFault bytes why → ⊥

-- the input has a log: it is a problem's file
abbrev HasLog : List ℕ → Type 0
HasLog input = (p : ProblemParts) × ProblemFile input p × (IsCheckpoint input → ⊥)

-- it has none
abbrev NoLog : List ℕ → Status → Type 0
NoLog input status = ((why : ProblemFault) × (status ≡ ended.Problem why) × IsNoProblem input why)
    ⊎ ((status ≡ ended.NotProblem) × IsCheckpoint input)

has_log : (input text : List ℕ) → IsLogOf input text → HasLog input
has_log input text is = (is.p, is.file, is.begins)

module _ (law : OneFile) (input : List ℕ) where
  never : (status : Status) → HasLog input → NoLog input status → ⊥
  never status has (inl lacks) = law.never_both input has.0 lacks.0 has.1 lacks.2.1
  never status has (inr lacks) = has.2 lacks.1

  one : (status other : Status) → NoLog input status → NoLog input other → status ≡ other
  one status other (inl lacks) (inl also) = lacks.1 ∙ ap ended.Problem (law.one_fault input lacks.0 also.0 lacks.2.1 also.2.1) ∙ sym also.1
  one status other (inl lacks) (inr also) = absurd (lacks.2.0 also.1)
  one status other (inr lacks) (inl also) = absurd (also.2.0 lacks.1)
  one status other (inr lacks) (inr also) = lacks.0 ∙ sym also.0

owed : (input : List ℕ) (due : Status) → IsLogDue input due → IsOwed input (NoLog input) due
owed input (ended.Problem fault) is = inr (is.0, inl (fault, refl, is.1))
owed input ended.NotProblem is = inr (is.0, inr (refl, is.1))
owed input ended.TooLong is = inl (refl, is)
owed input ended.Finished is = absurd is
owed input (ended.Stopped after) is = absurd is
owed input ended.WriteFault is = absurd is
owed input ended.NoMemory is = absurd is
owed input (ended.Words fault) is = absurd is
owed input ended.ReadFault is = absurd is
owed input (ended.Checkpoint fault) is = absurd is
owed input (ended.Trail fault) is = absurd is
owed input (ended.Join fault) is = absurd is
owed input (ended.Audit fault) is = absurd is

-- how such a call ends from a source that told its bytes, where no read failed
module _ {S K : Type 0} (source : Reading S) (sink : Writing K) (status : Status) (ends : EndsLog source sink status)
    (shows : (taken : List ℕ) → source.took source.old source.new taken → Consumes (source.left source.old) (source.left source.new) taken)
    (law : OneFile) (input : List ℕ) (told : source.left source.old ≡ Some input)
    (reads : Rose (source.faults source.old) (source.faults source.new) → ⊥) where
  same : (taken : List ℕ) → WasRead source taken → taken ≡ input
  same taken is = sym (the_input (source.left source.old) input taken told is.told)

  right : (taken text : List ℕ) → WasRead source taken → IsLogOf taken text → (length input ≤ 2 ^ 40) × HasLog input
  right taken text read is = subst (λ (x : List ℕ). (length x ≤ 2 ^ 40) × HasLog x) (same taken read) (read.short, has_log taken text is)

  wrong : (taken : List ℕ) (status : Status) → WasRead source taken → NoLog taken status → (length input ≤ 2 ^ 40) × NoLog input status
  wrong taken status read is = subst (λ (x : List ℕ). (length x ≤ 2 ^ 40) × NoLog x status) (same taken read) (read.short, is)

  tells : (status : Status) → EndsLog source sink status → Tells input (HasLog input) (NoLog input) status
  tells ended.Finished ends = inl (inl refl, right ends.0 ends.1 ends.2 ends.3)
  tells ended.WriteFault ends = inl (inr refl, right ends.0 ends.1 ends.2 ends.3)
  tells (ended.Problem fault) ends = inr (inr (inr (wrong ends.0 (ended.Problem fault) ends.1 (inl (fault, refl, ends.2)))))
  tells ended.NotProblem ends = inr (inr (inr (wrong ends.0 ended.NotProblem ends.1 (inr (refl, ends.2)))))
  tells ended.TooLong ends =
      let more : TookMore source.took source.old source.new (2 ^ 40) = ends.0.0 in
      inr (inl (refl, omega (arith, more.2, taken_of_told _ _ input more.0 told (shows more.0 more.1))))
  tells ended.NoMemory ends = inr (inr (inl refl))
  tells ended.ReadFault ends = absurd (reads ends.0.1)
  tells (ended.Checkpoint fault) ends = absurd ends.0
  tells (ended.Stopped after) ends = absurd ends.0
  tells (ended.Words fault) ends = absurd ends.0
  tells (ended.Trail fault) ends = absurd ends.0
  tells (ended.Join fault) ends = absurd ends.0
  tells (ended.Audit fault) ends = absurd ends.0

  no_write_fault : (Rose (sink.faults sink.old) (sink.faults sink.new) → ⊥) → status ≡ ended.WriteFault → ⊥
  no_write_fault writes is =
      let cut : EndsLog source sink ended.WriteFault = subst (EndsLog source sink) is ends in
      writes cut.4.rose

  pub log_finished : (p : ProblemParts) → length input ≤ 2 ^ 40 → (IsCheckpoint input → ⊥) → ProblemFile input p
      → (Rose (sink.faults sink.old) (sink.faults sink.new) → ⊥) → (status ≡ ended.Finished) ⊎ (status ≡ ended.NoMemory)
  log_finished p short begins file writes =
      told_finished input (HasLog input) (NoLog input) (never law input) status (p, file, begins) short (no_write_fault writes) (tells status ends)

  pub log_refused : (due : Status) → IsLogDue input due → (status ≡ due) ⊎ (status ≡ ended.NoMemory)
  log_refused due is =
      told_refused input (HasLog input) (NoLog input) (never law input) status (one law input) due (owed input due is) (tells status ends)
