-- What a call that audits a book ends with where no read and no write failed.
use Rattle.std.proofs.Common.{◌≡◌, ℕ, ◌^◌, ◌≤◌, ◌⊎◌, List, length, Some, inl, inr, refl, sym, ap, ◌∙◌, subst, arith}
use Rattle.std.specs.Io.KnownBytes.{Consumes}
use Rattle.cr_io.specs.Causes.{Rose}
use Rattle.cr_io.specs.Ends.{TookMore}
use Rattle.cr_audit.specs.declared.fault.AuditFault.{AuditFault}
use Rattle.cr_model.specs.declared.file_fault.ProblemFault.{ProblemFault}
use Rattle.cr_top.specs.declared.status.Status.{Status}
use Rattle.cr_top.specs.declared.status.Status.TheVariants as ended
use Rattle.cr_top.specs.Audited.{IsAuditOf, FirstAuditFault, HasNoProblem}
use Rattle.cr_top.specs.Streams.{Reading, Writing, WasRead}
use Rattle.cr_top.specs.Endings.{IsAuditDue, EndsAudit}
use Rattle.cr_top.proofs.Completeness.{taken_of_told, the_input}
use Rattle.cr_top.proofs.ToldAnswers.{Tells, IsOwed, told_finished, told_refused}

-- what the law on audits says
pub record OneAudit : Type 0 where
  pub one_fault : (text : List ℕ) (why other : AuditFault) → FirstAuditFault text why → FirstAuditFault text other → why ≡ other
  pub one_problem : (text : List ℕ) (why other : ProblemFault) → HasNoProblem text why → HasNoProblem text other → why ≡ other
  pub no_fault : (text : List ℕ) (number : ℕ) (why : AuditFault) → IsAuditOf text number → FirstAuditFault text why → ⊥
  pub a_problem : (text : List ℕ) (number : ℕ) (why : ProblemFault) → IsAuditOf text number → HasNoProblem text why → ⊥
  pub never_both : (text : List ℕ) (why : AuditFault) (other : ProblemFault) → FirstAuditFault text why → HasNoProblem text other → ⊥

-- an audit of the bytes says yes
abbrev SaysYes : List ℕ → Type 0
SaysYes input = (number : ℕ) × IsAuditOf input number

-- it does not
abbrev SaysNo : List ℕ → Status → Type 0
SaysNo input status = ((why : AuditFault) × (status ≡ ended.Audit why) × FirstAuditFault input why)
    ⊎ ((why : ProblemFault) × (status ≡ ended.Problem why) × HasNoProblem input why)

module _ (law : OneAudit) (input : List ℕ) where
  never : (status : Status) → SaysYes input → SaysNo input status → ⊥
  never status has (inl lacks) = law.no_fault input has.0 lacks.0 has.1 lacks.2
  never status has (inr lacks) = law.a_problem input has.0 lacks.0 has.1 lacks.2

  one : (status other : Status) → SaysNo input status → SaysNo input other → status ≡ other
  one status other (inl lacks) (inl also) = lacks.1 ∙ ap ended.Audit (law.one_fault input lacks.0 also.0 lacks.2 also.2) ∙ sym also.1
  one status other (inl lacks) (inr also) = absurd (law.never_both input lacks.0 also.0 lacks.2 also.2)
  one status other (inr lacks) (inl also) = absurd (law.never_both input also.0 lacks.0 also.2 lacks.2)
  one status other (inr lacks) (inr also) = lacks.1 ∙ ap ended.Problem (law.one_problem input lacks.0 also.0 lacks.2 also.2) ∙ sym also.1

owed : (input : List ℕ) (due : Status) → IsAuditDue input due → IsOwed input (SaysNo input) due
owed input (ended.Audit fault) is = inr (is.0, inl (fault, refl, is.1))
owed input (ended.Problem fault) is = inr (is.0, inr (fault, refl, is.1))
owed input ended.TooLong is = inl (refl, is)
owed input ended.NotProblem is = absurd is
owed input ended.Finished is = absurd is
owed input (ended.Stopped after) is = absurd is
owed input ended.WriteFault is = absurd is
owed input ended.NoMemory is = absurd is
owed input (ended.Words fault) is = absurd is
owed input ended.ReadFault is = absurd is
owed input (ended.Checkpoint fault) is = absurd is
owed input (ended.Trail fault) is = absurd is
owed input (ended.Join fault) is = absurd is

-- how such a call ends from a source that told its bytes, where no read failed
module _ {S K : Type 0} (source : Reading S) (sink : Writing K) (status : Status) (ends : EndsAudit source sink status)
    (shows : (taken : List ℕ) → source.took source.old source.new taken → Consumes (source.left source.old) (source.left source.new) taken)
    (law : OneAudit) (input : List ℕ) (told : source.left source.old ≡ Some input)
    (reads : Rose (source.faults source.old) (source.faults source.new) → ⊥) where
  same : (taken : List ℕ) → WasRead source taken → taken ≡ input
  same taken is = sym (the_input (source.left source.old) input taken told is.told)

  right : (taken : List ℕ) (number : ℕ) → WasRead source taken → IsAuditOf taken number → (length input ≤ 2 ^ 40) × SaysYes input
  right taken number read is = subst (λ (x : List ℕ). (length x ≤ 2 ^ 40) × SaysYes x) (same taken read) (read.short, (number, is))

  wrong : (taken : List ℕ) (status : Status) → WasRead source taken → SaysNo taken status → (length input ≤ 2 ^ 40) × SaysNo input status
  wrong taken status read is = subst (λ (x : List ℕ). (length x ≤ 2 ^ 40) × SaysNo x status) (same taken read) (read.short, is)

  tells : (status : Status) → EndsAudit source sink status → Tells input (SaysYes input) (SaysNo input) status
  tells ended.Finished ends = inl (inl refl, right ends.0 ends.1 ends.2 ends.3)
  tells ended.WriteFault ends = inl (inr refl, right ends.0 ends.1 ends.2 ends.3)
  tells (ended.Audit fault) ends = inr (inr (inr (wrong ends.0 (ended.Audit fault) ends.1 (inl (fault, refl, ends.2)))))
  tells (ended.Problem fault) ends = inr (inr (inr (wrong ends.0 (ended.Problem fault) ends.1 (inr (fault, refl, ends.2)))))
  tells ended.TooLong ends =
      let more : TookMore source.took source.old source.new (2 ^ 40) = ends.0.0 in
      inr (inl (refl, omega (arith, more.2, taken_of_told _ _ input more.0 told (shows more.0 more.1))))
  tells ended.NoMemory ends = inr (inr (inl refl))
  tells ended.ReadFault ends = absurd (reads ends.0.1)
  tells ended.NotProblem ends = absurd ends.0
  tells (ended.Checkpoint fault) ends = absurd ends.0
  tells (ended.Stopped after) ends = absurd ends.0
  tells (ended.Words fault) ends = absurd ends.0
  tells (ended.Trail fault) ends = absurd ends.0
  tells (ended.Join fault) ends = absurd ends.0

  no_write_fault : (Rose (sink.faults sink.old) (sink.faults sink.new) → ⊥) → status ≡ ended.WriteFault → ⊥
  no_write_fault writes is =
      let cut : EndsAudit source sink ended.WriteFault = subst (EndsAudit source sink) is ends in
      writes cut.4.rose

  pub audit_finished : (number : ℕ) → length input ≤ 2 ^ 40 → IsAuditOf input number
      → (Rose (sink.faults sink.old) (sink.faults sink.new) → ⊥) → (status ≡ ended.Finished) ⊎ (status ≡ ended.NoMemory)
  audit_finished number short is writes =
      told_finished input (SaysYes input) (SaysNo input) (never law input) status (number, is) short (no_write_fault writes) (tells status ends)

  pub audit_refused : (due : Status) → IsAuditDue input due → (status ≡ due) ⊎ (status ≡ ended.NoMemory)
  audit_refused due is =
      told_refused input (SaysYes input) (SaysNo input) (never law input) status (one law input) due (owed input due is) (tells status ends)
