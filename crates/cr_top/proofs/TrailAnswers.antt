-- What a call that writes a trail ends with where no read and no write failed.
use Rattle.std.proofs.Common.{◌≡◌, ℕ, ◌^◌, ◌<◌, ◌≤◌, ◌⊎◌, List, length, Some, inl, inr, refl, sym, ap, subst, arith}
use Rattle.std.specs.Prelude.{⊤}
use Rattle.std.specs.Io.KnownBytes.{Consumes}
use Rattle.cr_io.specs.Causes.{Rose}
use Rattle.cr_io.specs.Ends.{TookMore}
use Rattle.cr_model.specs.Problems.{ProblemParts}
use Rattle.cr_model.specs.declared.file_fault.ProblemFault.{ProblemFault}
use Rattle.cr_model.specs.Checkpoints.{nodes_of_jobs}
use Rattle.cr_model.specs.Inputs.{Input}
use Rattle.cr_store.specs.declared.fault.CheckFault.{CheckFault}
use Rattle.cr_trail.specs.Trails.{IsTrail}
use Rattle.cr_trail.proofs.Inputs.{input_says}
use Rattle.cr_top.specs.declared.status.Status.{Status}
use Rattle.cr_top.specs.declared.status.Status.TheVariants as ended
use Rattle.cr_top.specs.OneAnswer.{HasOneAnswer}
use Rattle.cr_top.specs.Texts.{IsNoProblem, IsNoCheckpoint}
use Rattle.cr_top.specs.Streams.{Reading, Writing, WasRead}
use Rattle.cr_top.specs.Endings.{IsDue, EndsTrail}
use Rattle.cr_top.proofs.Completeness.{taken_of_told, the_input}

-- the text is an input
abbrev pub IsInput : List ℕ → Type 0
IsInput input = (bytes : List ℕ) × (p : ProblemParts) × (found : List (List ℕ)) × (nodes : List (List ℕ)) × Input input bytes p found nodes

trail_of_input : (input : List ℕ) (every : ℕ) (trail : List (List ℕ)) → IsTrail input every trail → IsInput input
trail_of_input input every trail is =
    (is.bytes, is.p, is.found, nodes_of_jobs is.jobs, input_says input is.bytes is.p is.found is.jobs is.says)

-- what a status says of an input that was told, where no read failed
abbrev pub Says : List ℕ → Status → Type 0
Says input ended.Finished = (length input ≤ 2 ^ 40) × IsInput input
Says input ended.WriteFault = (length input ≤ 2 ^ 40) × IsInput input
Says input (ended.Problem fault) = (length input ≤ 2 ^ 40) × IsNoProblem input fault
Says input (ended.Checkpoint fault) = (length input ≤ 2 ^ 40) × IsNoCheckpoint input fault
Says input ended.TooLong = 2 ^ 40 < length input
Says input ended.NoMemory = ⊤
Says input status = ⊥

module _ (input : List ℕ) (one : HasOneAnswer input) where
  not_none : IsInput input → (fault : ProblemFault) → IsNoProblem input fault → ⊥
  not_none (bytes, p, found, nodes, is) fault wrong = one.no_problem_fault bytes p found nodes fault is wrong

  not_torn : length input ≤ 2 ^ 40 → IsInput input → (fault : CheckFault) → IsNoCheckpoint input fault → ⊥
  not_torn short (bytes, p, found, nodes, is) fault wrong = one.no_check_fault short bytes p found nodes fault is wrong

  -- an input is searched to its end, unless a write failed
  pub finishes : length input ≤ 2 ^ 40 → IsInput input → (status : Status) → (status ≡ ended.WriteFault → ⊥) → Says input status
      → (status ≡ ended.Finished) ⊎ (status ≡ ended.NoMemory)
  finishes short is ended.Finished writes says = inl refl
  finishes short is ended.NoMemory writes says = inr refl
  finishes short is ended.WriteFault writes says = absurd (writes refl)
  finishes short is (ended.Problem fault) writes says = absurd (not_none is fault says.1)
  finishes short is (ended.Checkpoint fault) writes says = absurd (not_torn short is fault says.1)
  finishes short is ended.TooLong writes says = let long : 2 ^ 40 < length input = says in absurd (omega (arith, short))
  finishes short is (ended.Stopped after) writes says = absurd says
  finishes short is (ended.Words fault) writes says = absurd says
  finishes short is ended.ReadFault writes says = absurd says
  finishes short is (ended.Trail fault) writes says = absurd says
  finishes short is (ended.Join fault) writes says = absurd says
  finishes short is (ended.Audit fault) writes says = absurd says
  finishes short is ended.NotProblem writes says = absurd says

  no_problem : (fault : ProblemFault) (status : Status) → (length input ≤ 2 ^ 40) × IsNoProblem input fault → Says input status
      → (status ≡ ended.Problem fault) ⊎ (status ≡ ended.NoMemory)
  no_problem fault (ended.Problem other) due says = inl (ap ended.Problem (one.one_problem_fault other fault says.1 due.1))
  no_problem fault ended.NoMemory due says = inr refl
  no_problem fault (ended.Checkpoint other) due says = absurd (due.1.0 says.1.0)
  no_problem fault ended.Finished due says = absurd (not_none says.1 fault due.1)
  no_problem fault ended.WriteFault due says = absurd (not_none says.1 fault due.1)
  no_problem fault ended.TooLong due says = let long : 2 ^ 40 < length input = says in absurd (omega (arith, due.0))
  no_problem fault (ended.Stopped after) due says = absurd says
  no_problem fault (ended.Words other) due says = absurd says
  no_problem fault ended.ReadFault due says = absurd says
  no_problem fault (ended.Trail other) due says = absurd says
  no_problem fault (ended.Join other) due says = absurd says
  no_problem fault (ended.Audit other) due says = absurd says
  no_problem fault ended.NotProblem due says = absurd says

  no_checkpoint : (fault : CheckFault) (status : Status) → (length input ≤ 2 ^ 40) × IsNoCheckpoint input fault → Says input status
      → (status ≡ ended.Checkpoint fault) ⊎ (status ≡ ended.NoMemory)
  no_checkpoint fault (ended.Checkpoint other) due says = inl (ap ended.Checkpoint (one.one_check_fault other fault says.1 due.1))
  no_checkpoint fault ended.NoMemory due says = inr refl
  no_checkpoint fault (ended.Problem other) due says = absurd (says.1.0 due.1.0)
  no_checkpoint fault ended.Finished due says = absurd (not_torn due.0 says.1 fault due.1)
  no_checkpoint fault ended.WriteFault due says = absurd (not_torn due.0 says.1 fault due.1)
  no_checkpoint fault ended.TooLong due says = let long : 2 ^ 40 < length input = says in absurd (omega (arith, due.0))
  no_checkpoint fault (ended.Stopped after) due says = absurd says
  no_checkpoint fault (ended.Words other) due says = absurd says
  no_checkpoint fault ended.ReadFault due says = absurd says
  no_checkpoint fault (ended.Trail other) due says = absurd says
  no_checkpoint fault (ended.Join other) due says = absurd says
  no_checkpoint fault (ended.Audit other) due says = absurd says
  no_checkpoint fault ended.NotProblem due says = absurd says

  too_long : (status : Status) → 2 ^ 40 < length input → Says input status → (status ≡ ended.TooLong) ⊎ (status ≡ ended.NoMemory)
  too_long ended.TooLong due says = inl refl
  too_long ended.NoMemory due says = inr refl
  too_long ended.Finished due says = absurd (omega (arith, due, says.0))
  too_long ended.WriteFault due says = absurd (omega (arith, due, says.0))
  too_long (ended.Problem fault) due says = absurd (omega (arith, due, says.0))
  too_long (ended.Checkpoint fault) due says = absurd (omega (arith, due, says.0))
  too_long (ended.Stopped after) due says = absurd says
  too_long (ended.Words fault) due says = absurd says
  too_long ended.ReadFault due says = absurd says
  too_long (ended.Trail fault) due says = absurd says
  too_long (ended.Join fault) due says = absurd says
  too_long (ended.Audit fault) due says = absurd says
  too_long ended.NotProblem due says = absurd says

  -- each refusal that an input is due comes, unless memory was wanting
  pub refuses : (due status : Status) → IsDue input due → Says input status → (status ≡ due) ⊎ (status ≡ ended.NoMemory)
  refuses (ended.Problem fault) status is says = no_problem fault status is says
  refuses (ended.Checkpoint fault) status is says = no_checkpoint fault status is says
  refuses ended.TooLong status is says = too_long status is says
  refuses ended.Finished status is says = absurd is
  refuses (ended.Stopped after) status is says = absurd is
  refuses ended.WriteFault status is says = absurd is
  refuses ended.NoMemory status is says = absurd is
  refuses (ended.Words fault) status is says = absurd is
  refuses ended.ReadFault status is says = absurd is
  refuses (ended.Trail fault) status is says = absurd is
  refuses (ended.Join fault) status is says = absurd is
  refuses (ended.Audit fault) status is says = absurd is
  refuses ended.NotProblem status is says = absurd is

-- how a trail ends from a source that told its bytes, where no read failed
module _ {S K : Type 0} (source : Reading S) (sink : Writing K) (every : ℕ) (status : Status) (ends : EndsTrail source sink every status)
    (shows : (taken : List ℕ) → source.took source.old source.new taken → Consumes (source.left source.old) (source.left source.new) taken)
    (input : List ℕ) (one : HasOneAnswer input) (told : source.left source.old ≡ Some input)
    (reads : Rose (source.faults source.old) (source.faults source.new) → ⊥) where
  same : (taken : List ℕ) → WasRead source taken → taken ≡ input
  same taken is = sym (the_input (source.left source.old) input taken told is.told)

  says : (status : Status) → EndsTrail source sink every status → Says input status
  says ended.Finished ends = subst (λ x. (length x ≤ 2 ^ 40) × IsInput x) (same ends.0 ends.2) (ends.2.short, trail_of_input ends.0 every ends.1 ends.3)
  says ended.WriteFault ends = subst (λ x. (length x ≤ 2 ^ 40) × IsInput x) (same ends.0 ends.2) (ends.2.short, trail_of_input ends.0 every ends.1 ends.3)
  says (ended.Problem fault) ends = subst (λ x. (length x ≤ 2 ^ 40) × IsNoProblem x fault) (same ends.0.0 ends.0.1) (ends.0.1.short, ends.0.2)
  says (ended.Checkpoint fault) ends = subst (λ x. (length x ≤ 2 ^ 40) × IsNoCheckpoint x fault) (same ends.0.0 ends.0.1) (ends.0.1.short, ends.0.2)
  says ended.TooLong ends =
      let more : TookMore source.took source.old source.new (2 ^ 40) = ends.0.0 in
      omega (arith, more.2, taken_of_told _ _ input more.0 told (shows more.0 more.1))
  says ended.NoMemory ends = tt
  says (ended.Stopped after) ends = absurd ends.0
  says (ended.Words fault) ends = absurd ends.0
  says ended.ReadFault ends = absurd (reads ends.0.1)
  says (ended.Trail fault) ends = absurd ends.0
  says (ended.Join fault) ends = absurd ends.0
  says (ended.Audit fault) ends = absurd ends.0
  says ended.NotProblem ends = absurd ends.0

  no_write_fault : (Rose (sink.faults sink.old) (sink.faults sink.new) → ⊥) → status ≡ ended.WriteFault → ⊥
  no_write_fault writes is =
      let cut : EndsTrail source sink every ended.WriteFault = subst (EndsTrail source sink every) is ends in
      writes cut.4.rose

  pub trail_finished : (bytes : List ℕ) (p : ProblemParts) (found nodes : List (List ℕ)) → length input ≤ 2 ^ 40 → Input input bytes p found nodes
      → (Rose (sink.faults sink.old) (sink.faults sink.new) → ⊥) → (status ≡ ended.Finished) ⊎ (status ≡ ended.NoMemory)
  trail_finished bytes p found nodes short is writes =
      finishes input one short (bytes, p, found, nodes, is) status (no_write_fault writes) (says status ends)

  pub trail_refused : (due : Status) → IsDue input due → (status ≡ due) ⊎ (status ≡ ended.NoMemory)
  trail_refused due is = refuses input one due status is (says status ends)
