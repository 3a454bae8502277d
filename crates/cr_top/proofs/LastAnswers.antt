-- What a call that writes the last checkpoint of a trail ends with where no read and no write failed.
use Rattle.std.proofs.Common.{◌≡◌, ℕ, ◌^◌, ◌<◌, ◌≤◌, ◌⊎◌, List, length, Some, Result, Ok, Err, inl, inr, refl, sym, ap, subst, arith}
use Rattle.std.specs.Prelude.{⊤}
use Rattle.std.specs.Io.KnownBytes.{Consumes}
use Rattle.cr_io.specs.Causes.{Rose}
use Rattle.cr_io.specs.Ends.{TookMore}
use Rattle.cr_trail.specs.Lasts.{IsLast}
use Rattle.cr_trail.specs.declared.last.TrailFault.{TrailFault}
use Rattle.cr_top.specs.declared.status.Status.{Status}
use Rattle.cr_top.specs.declared.status.Status.TheVariants as ended
use Rattle.cr_top.specs.Streams.{Reading, Writing, WasRead}
use Rattle.cr_top.specs.Endings.{IsLastDue, EndsLast}
use Rattle.cr_top.proofs.Completeness.{taken_of_told, the_input}

-- what the law on last blocks says
abbrev pub OneLast : Type 0
OneLast = (text : List ℕ) (one other : Result (ℕ × ℕ) TrailFault) → IsLast text one → IsLast text other → one ≡ other

-- what a status says of bytes that were told, where no read failed
abbrev Says : List ℕ → Status → Type 0
Says input ended.Finished = (length input ≤ 2 ^ 40) × ((last : ℕ × ℕ) × IsLast input (Ok last))
Says input ended.WriteFault = (length input ≤ 2 ^ 40) × ((last : ℕ × ℕ) × IsLast input (Ok last))
Says input (ended.Trail fault) = (length input ≤ 2 ^ 40) × IsLast input (Err fault)
Says input ended.TooLong = 2 ^ 40 < length input
Says input ended.NoMemory = ⊤
Says input status = ⊥

module _ (law : OneLast) (input : List ℕ) where
  not_both : (last : ℕ × ℕ) (fault : TrailFault) → IsLast input (Ok last) → IsLast input (Err fault) → ⊥
  not_both last fault is wrong = let same : Ok last ≡ Err fault = law input (Ok last) (Err fault) is wrong in absurd (cc)

  one_fault : (fault other : TrailFault) → IsLast input (Err fault) → IsLast input (Err other) → fault ≡ other
  one_fault fault other is also = let same : Err fault ≡ Err other = law input (Err fault) (Err other) is also in cc

  finishes : length input ≤ 2 ^ 40 → (last : ℕ × ℕ) → IsLast input (Ok last) → (status : Status) → (status ≡ ended.WriteFault → ⊥)
      → Says input status → (status ≡ ended.Finished) ⊎ (status ≡ ended.NoMemory)
  finishes short last is ended.Finished writes says = inl refl
  finishes short last is ended.NoMemory writes says = inr refl
  finishes short last is ended.WriteFault writes says = absurd (writes refl)
  finishes short last is (ended.Trail fault) writes says = absurd (not_both last fault is says.1)
  finishes short last is ended.TooLong writes says = let long : 2 ^ 40 < length input = says in absurd (omega (arith, short))
  finishes short last is (ended.Problem fault) writes says = absurd says
  finishes short last is (ended.Checkpoint fault) writes says = absurd says
  finishes short last is (ended.Join fault) writes says = absurd says
  finishes short last is (ended.Audit fault) writes says = absurd says
  finishes short last is ended.NotProblem writes says = absurd says
  finishes short last is (ended.Stopped after) writes says = absurd says
  finishes short last is (ended.Words fault) writes says = absurd says
  finishes short last is ended.ReadFault writes says = absurd says

  no_last : (fault : TrailFault) (status : Status) → (length input ≤ 2 ^ 40) × IsLast input (Err fault) → Says input status
      → (status ≡ ended.Trail fault) ⊎ (status ≡ ended.NoMemory)
  no_last fault (ended.Trail other) due says = inl (ap ended.Trail (one_fault other fault says.1 due.1))
  no_last fault ended.NoMemory due says = inr refl
  no_last fault ended.Finished due says = absurd (not_both says.1.0 fault says.1.1 due.1)
  no_last fault ended.WriteFault due says = absurd (not_both says.1.0 fault says.1.1 due.1)
  no_last fault ended.TooLong due says = let long : 2 ^ 40 < length input = says in absurd (omega (arith, due.0))
  no_last fault (ended.Problem other) due says = absurd says
  no_last fault (ended.Checkpoint other) due says = absurd says
  no_last fault (ended.Join other) due says = absurd says
  no_last fault (ended.Audit other) due says = absurd says
  no_last fault ended.NotProblem due says = absurd says
  no_last fault (ended.Stopped after) due says = absurd says
  no_last fault (ended.Words other) due says = absurd says
  no_last fault ended.ReadFault due says = absurd says

  too_long : (status : Status) → 2 ^ 40 < length input → Says input status → (status ≡ ended.TooLong) ⊎ (status ≡ ended.NoMemory)
  too_long ended.TooLong due says = inl refl
  too_long ended.NoMemory due says = inr refl
  too_long ended.Finished due says = absurd (omega (arith, due, says.0))
  too_long ended.WriteFault due says = absurd (omega (arith, due, says.0))
  too_long (ended.Trail fault) due says = absurd (omega (arith, due, says.0))
  too_long (ended.Problem fault) due says = absurd says
  too_long (ended.Checkpoint fault) due says = absurd says
  too_long (ended.Join fault) due says = absurd says
  too_long (ended.Audit fault) due says = absurd says
  too_long ended.NotProblem due says = absurd says
  too_long (ended.Stopped after) due says = absurd says
  too_long (ended.Words fault) due says = absurd says
  too_long ended.ReadFault due says = absurd says

  refuses : (due status : Status) → IsLastDue input due → Says input status → (status ≡ due) ⊎ (status ≡ ended.NoMemory)
  refuses (ended.Trail fault) status is says = no_last fault status is says
  refuses ended.TooLong status is says = too_long status is says
  refuses ended.Finished status is says = absurd is
  refuses (ended.Stopped after) status is says = absurd is
  refuses ended.WriteFault status is says = absurd is
  refuses ended.NoMemory status is says = absurd is
  refuses (ended.Words fault) status is says = absurd is
  refuses ended.ReadFault status is says = absurd is
  refuses (ended.Problem fault) status is says = absurd is
  refuses (ended.Checkpoint fault) status is says = absurd is
  refuses (ended.Join fault) status is says = absurd is
  refuses (ended.Audit fault) status is says = absurd is
  refuses ended.NotProblem status is says = absurd is

-- how such a call ends from a source that told its bytes, where no read failed
module _ {S K : Type 0} (source : Reading S) (sink : Writing K) (status : Status) (ends : EndsLast source sink status)
    (shows : (taken : List ℕ) → source.took source.old source.new taken → Consumes (source.left source.old) (source.left source.new) taken)
    (law : OneLast) (input : List ℕ) (told : source.left source.old ≡ Some input)
    (reads : Rose (source.faults source.old) (source.faults source.new) → ⊥) where
  same : (taken : List ℕ) → WasRead source taken → taken ≡ input
  same taken is = sym (the_input (source.left source.old) input taken told is.told)

  says : (status : Status) → EndsLast source sink status → Says input status
  says ended.Finished ends =
      subst (λ x. (length x ≤ 2 ^ 40) × ((last : ℕ × ℕ) × IsLast x (Ok last))) (same ends.0 ends.2) (ends.2.short, (ends.1, ends.3))
  says ended.WriteFault ends =
      subst (λ x. (length x ≤ 2 ^ 40) × ((last : ℕ × ℕ) × IsLast x (Ok last))) (same ends.0 ends.2) (ends.2.short, (ends.1, ends.3))
  says (ended.Trail fault) ends = subst (λ x. (length x ≤ 2 ^ 40) × IsLast x (Err fault)) (same ends.0 ends.1) (ends.1.short, ends.2)
  says ended.TooLong ends =
      let more : TookMore source.took source.old source.new (2 ^ 40) = ends.0.0 in
      omega (arith, more.2, taken_of_told _ _ input more.0 told (shows more.0 more.1))
  says ended.NoMemory ends = tt
  says (ended.Problem fault) ends = absurd ends.0
  says (ended.Checkpoint fault) ends = absurd ends.0
  says (ended.Join fault) ends = absurd ends.0
  says (ended.Audit fault) ends = absurd ends.0
  says ended.NotProblem ends = absurd ends.0
  says (ended.Stopped after) ends = absurd ends.0
  says (ended.Words fault) ends = absurd ends.0
  says ended.ReadFault ends = absurd (reads ends.0.1)

  no_write_fault : (Rose (sink.faults sink.old) (sink.faults sink.new) → ⊥) → status ≡ ended.WriteFault → ⊥
  no_write_fault writes is =
      let cut : EndsLast source sink ended.WriteFault = subst (EndsLast source sink) is ends in
      writes cut.4.rose

  pub last_finished : (last : ℕ × ℕ) → length input ≤ 2 ^ 40 → IsLast input (Ok last)
      → (Rose (sink.faults sink.old) (sink.faults sink.new) → ⊥) → (status ≡ ended.Finished) ⊎ (status ≡ ended.NoMemory)
  last_finished last short is writes = finishes law input short last is status (no_write_fault writes) (says status ends)

  pub last_refused : (due : Status) → IsLastDue input due → (status ≡ due) ⊎ (status ≡ ended.NoMemory)
  last_refused due is = refuses law input due status is (says status ends)
