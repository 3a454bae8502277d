-- What a call that cuts an input, and one that joins shards, ends with where no read and no write failed.
use Rattle.std.proofs.Common.{◌≡◌, ℕ, ◌^◌, ◌<◌, ◌≤◌, ◌⊎◌, List, length, Some, inl, inr, refl, sym, ap, subst, arith}
use Rattle.std.specs.Prelude.{⊤}
use Rattle.std.specs.Io.KnownBytes.{Consumes}
use Rattle.cr_io.specs.Causes.{Rose}
use Rattle.cr_io.specs.Ends.{TookMore}
use Rattle.cr_model.specs.Problems.{ProblemParts}
use Rattle.cr_model.specs.Checkpoints.{nodes_of_jobs}
use Rattle.cr_model.specs.Inputs.{Input}
use Rattle.cr_shard.specs.JoinFaults.{IsJoin, FirstJoinFault}
use Rattle.cr_shard.specs.declared.fault.JoinFault.{JoinFault}
use Rattle.cr_top.specs.declared.status.Status.{Status}
use Rattle.cr_top.specs.declared.status.Status.TheVariants as ended
use Rattle.cr_top.specs.OneAnswer.{HasOneAnswer}
use Rattle.cr_top.specs.Texts.{IsNoProblem, IsNoCheckpoint}
use Rattle.cr_top.specs.Streams.{Reading, Writing, WasRead}
use Rattle.cr_top.specs.Shards.{IsCutOf}
use Rattle.cr_top.specs.Endings.{IsDue, IsJoinDue, EndsCut, EndsJoin}
use Rattle.cr_top.proofs.Completeness.{taken_of_told, the_input}
use Rattle.cr_top.proofs.TrailAnswers.{IsInput, Says, finishes, refuses}

cut_of_input : (into : ℕ) (input text : List ℕ) → IsCutOf into input text → IsInput input
cut_of_input into input text is = (is.bytes, is.p, is.found, nodes_of_jobs is.jobs, is.start.of_input)

-- how a cut ends from a source that told its bytes, where no read failed
module _ {S K : Type 0} (source : Reading S) (sink : Writing K) (into : ℕ) (status : Status) (ends : EndsCut source sink into status)
    (shows : (taken : List ℕ) → source.took source.old source.new taken → Consumes (source.left source.old) (source.left source.new) taken)
    (input : List ℕ) (one : HasOneAnswer input) (told : source.left source.old ≡ Some input)
    (reads : Rose (source.faults source.old) (source.faults source.new) → ⊥) where
  same : (taken : List ℕ) → WasRead source taken → taken ≡ input
  same taken is = sym (the_input (source.left source.old) input taken told is.told)

  cut_says : (status : Status) → EndsCut source sink into status → Says input status
  cut_says ended.Finished ends = subst (λ x. (length x ≤ 2 ^ 40) × IsInput x) (same ends.0 ends.2) (ends.2.short, cut_of_input into ends.0 ends.1 ends.3)
  cut_says ended.WriteFault ends = subst (λ x. (length x ≤ 2 ^ 40) × IsInput x) (same ends.0 ends.2) (ends.2.short, cut_of_input into ends.0 ends.1 ends.3)
  cut_says (ended.Problem fault) ends = subst (λ x. (length x ≤ 2 ^ 40) × IsNoProblem x fault) (same ends.0.0 ends.0.1) (ends.0.1.short, ends.0.2)
  cut_says (ended.Checkpoint fault) ends = subst (λ x. (length x ≤ 2 ^ 40) × IsNoCheckpoint x fault) (same ends.0.0 ends.0.1) (ends.0.1.short, ends.0.2)
  cut_says ended.TooLong ends =
      let more : TookMore source.took source.old source.new (2 ^ 40) = ends.0.0 in
      omega (arith, more.2, taken_of_told _ _ input more.0 told (shows more.0 more.1))
  cut_says ended.NoMemory ends = tt
  cut_says (ended.Stopped after) ends = absurd ends.0
  cut_says (ended.Words fault) ends = absurd ends.0
  cut_says ended.ReadFault ends = absurd (reads ends.0.1)
  cut_says (ended.Trail fault) ends = absurd ends.0
  cut_says (ended.Join fault) ends = absurd ends.0
  cut_says (ended.Audit fault) ends = absurd ends.0
  cut_says ended.NotProblem ends = absurd ends.0

  no_cut_fault : (Rose (sink.faults sink.old) (sink.faults sink.new) → ⊥) → status ≡ ended.WriteFault → ⊥
  no_cut_fault writes is =
      let cut : EndsCut source sink into ended.WriteFault = subst (EndsCut source sink into) is ends in
      writes cut.4.rose

  pub cut_finished : (bytes : List ℕ) (p : ProblemParts) (found nodes : List (List ℕ)) → length input ≤ 2 ^ 40 → Input input bytes p found nodes
      → (Rose (sink.faults sink.old) (sink.faults sink.new) → ⊥) → (status ≡ ended.Finished) ⊎ (status ≡ ended.NoMemory)
  cut_finished bytes p found nodes short is writes =
      finishes input one short (bytes, p, found, nodes, is) status (no_cut_fault writes) (cut_says status ends)

  pub cut_refused : (due : Status) → IsDue input due → (status ≡ due) ⊎ (status ≡ ended.NoMemory)
  cut_refused due is = refuses input one due status is (cut_says status ends)

-- what the law on joins says
pub record OneJoin : Type 0 where
  pub one_fault : (text : List ℕ) (why other : JoinFault) → FirstJoinFault text why → FirstJoinFault text other → why ≡ other
  pub never_both : (text joined : List ℕ) (why : JoinFault) → IsJoin text joined → FirstJoinFault text why → ⊥

-- what a status says of shards that were told, where no read failed
abbrev JoinSays : List ℕ → Status → Type 0
JoinSays input ended.Finished = (length input ≤ 2 ^ 40) × ((joined : List ℕ) × IsJoin input joined)
JoinSays input ended.WriteFault = (length input ≤ 2 ^ 40) × ((joined : List ℕ) × IsJoin input joined)
JoinSays input (ended.Join fault) = (length input ≤ 2 ^ 40) × FirstJoinFault input fault
JoinSays input ended.TooLong = 2 ^ 40 < length input
JoinSays input ended.NoMemory = ⊤
JoinSays input status = ⊥

module _ (law : OneJoin) (input : List ℕ) where
  joins : length input ≤ 2 ^ 40 → (joined : List ℕ) → IsJoin input joined → (status : Status) → (status ≡ ended.WriteFault → ⊥)
      → JoinSays input status → (status ≡ ended.Finished) ⊎ (status ≡ ended.NoMemory)
  joins short joined is ended.Finished writes says = inl refl
  joins short joined is ended.NoMemory writes says = inr refl
  joins short joined is ended.WriteFault writes says = absurd (writes refl)
  joins short joined is (ended.Join fault) writes says = absurd (law.never_both input joined fault is says.1)
  joins short joined is ended.TooLong writes says = let long : 2 ^ 40 < length input = says in absurd (omega (arith, short))
  joins short joined is (ended.Problem fault) writes says = absurd says
  joins short joined is (ended.Checkpoint fault) writes says = absurd says
  joins short joined is (ended.Stopped after) writes says = absurd says
  joins short joined is (ended.Words fault) writes says = absurd says
  joins short joined is ended.ReadFault writes says = absurd says
  joins short joined is (ended.Trail fault) writes says = absurd says
  joins short joined is (ended.Audit fault) writes says = absurd says
  joins short joined is ended.NotProblem writes says = absurd says

  no_join : (fault : JoinFault) (status : Status) → (length input ≤ 2 ^ 40) × FirstJoinFault input fault → JoinSays input status
      → (status ≡ ended.Join fault) ⊎ (status ≡ ended.NoMemory)
  no_join fault (ended.Join other) due says = inl (ap ended.Join (law.one_fault input other fault says.1 due.1))
  no_join fault ended.NoMemory due says = inr refl
  no_join fault ended.Finished due says = absurd (law.never_both input says.1.0 fault says.1.1 due.1)
  no_join fault ended.WriteFault due says = absurd (law.never_both input says.1.0 fault says.1.1 due.1)
  no_join fault ended.TooLong due says = let long : 2 ^ 40 < length input = says in absurd (omega (arith, due.0))
  no_join fault (ended.Problem other) due says = absurd says
  no_join fault (ended.Checkpoint other) due says = absurd says
  no_join fault (ended.Stopped after) due says = absurd says
  no_join fault (ended.Words other) due says = absurd says
  no_join fault ended.ReadFault due says = absurd says
  no_join fault (ended.Trail other) due says = absurd says
  no_join fault (ended.Audit other) due says = absurd says
  no_join fault ended.NotProblem due says = absurd says

  too_many : (status : Status) → 2 ^ 40 < length input → JoinSays input status → (status ≡ ended.TooLong) ⊎ (status ≡ ended.NoMemory)
  too_many ended.TooLong due says = inl refl
  too_many ended.NoMemory due says = inr refl
  too_many ended.Finished due says = absurd (omega (arith, due, says.0))
  too_many ended.WriteFault due says = absurd (omega (arith, due, says.0))
  too_many (ended.Join fault) due says = absurd (omega (arith, due, says.0))
  too_many (ended.Problem fault) due says = absurd says
  too_many (ended.Checkpoint fault) due says = absurd says
  too_many (ended.Stopped after) due says = absurd says
  too_many (ended.Words fault) due says = absurd says
  too_many ended.ReadFault due says = absurd says
  too_many (ended.Trail fault) due says = absurd says
  too_many (ended.Audit fault) due says = absurd says
  too_many ended.NotProblem due says = absurd says

  refuses_join : (due status : Status) → IsJoinDue input due → JoinSays input status → (status ≡ due) ⊎ (status ≡ ended.NoMemory)
  refuses_join (ended.Join fault) status is says = no_join fault status is says
  refuses_join ended.TooLong status is says = too_many status is says
  refuses_join ended.Finished status is says = absurd is
  refuses_join (ended.Stopped after) status is says = absurd is
  refuses_join ended.WriteFault status is says = absurd is
  refuses_join ended.NoMemory status is says = absurd is
  refuses_join (ended.Words fault) status is says = absurd is
  refuses_join ended.ReadFault status is says = absurd is
  refuses_join (ended.Problem fault) status is says = absurd is
  refuses_join (ended.Checkpoint fault) status is says = absurd is
  refuses_join (ended.Trail fault) status is says = absurd is
  refuses_join (ended.Audit fault) status is says = absurd is
  refuses_join ended.NotProblem status is says = absurd is

-- how a join ends from a source that told its bytes, where no read failed
module _ {S K : Type 0} (source : Reading S) (sink : Writing K) (status : Status) (ends : EndsJoin source sink status)
    (shows : (taken : List ℕ) → source.took source.old source.new taken → Consumes (source.left source.old) (source.left source.new) taken)
    (law : OneJoin) (input : List ℕ) (told : source.left source.old ≡ Some input)
    (reads : Rose (source.faults source.old) (source.faults source.new) → ⊥) where
  joined_same : (taken : List ℕ) → WasRead source taken → taken ≡ input
  joined_same taken is = sym (the_input (source.left source.old) input taken told is.told)

  join_says : (status : Status) → EndsJoin source sink status → JoinSays input status
  join_says ended.Finished ends =
      subst (λ x. (length x ≤ 2 ^ 40) × ((joined : List ℕ) × IsJoin x joined)) (joined_same ends.0 ends.2) (ends.2.short, (ends.1, ends.3))
  join_says ended.WriteFault ends =
      subst (λ x. (length x ≤ 2 ^ 40) × ((joined : List ℕ) × IsJoin x joined)) (joined_same ends.0 ends.2) (ends.2.short, (ends.1, ends.3))
  join_says (ended.Join fault) ends =
      subst (λ x. (length x ≤ 2 ^ 40) × FirstJoinFault x fault) (joined_same ends.0 ends.1) (ends.1.short, ends.2)
  join_says ended.TooLong ends =
      let more : TookMore source.took source.old source.new (2 ^ 40) = ends.0.0 in
      omega (arith, more.2, taken_of_told _ _ input more.0 told (shows more.0 more.1))
  join_says ended.NoMemory ends = tt
  join_says (ended.Problem fault) ends = absurd ends.0
  join_says (ended.Checkpoint fault) ends = absurd ends.0
  join_says (ended.Stopped after) ends = absurd ends.0
  join_says (ended.Words fault) ends = absurd ends.0
  join_says ended.ReadFault ends = absurd (reads ends.0.1)
  join_says (ended.Trail fault) ends = absurd ends.0
  join_says (ended.Audit fault) ends = absurd ends.0
  join_says ended.NotProblem ends = absurd ends.0

  no_join_fault : (Rose (sink.faults sink.old) (sink.faults sink.new) → ⊥) → status ≡ ended.WriteFault → ⊥
  no_join_fault writes is =
      let cut : EndsJoin source sink ended.WriteFault = subst (EndsJoin source sink) is ends in
      writes cut.4.rose

  pub join_finished : (joined : List ℕ) → length input ≤ 2 ^ 40 → IsJoin input joined
      → (Rose (sink.faults sink.old) (sink.faults sink.new) → ⊥) → (status ≡ ended.Finished) ⊎ (status ≡ ended.NoMemory)
  join_finished joined short is writes = joins law input short joined is status (no_join_fault writes) (join_says status ends)

  pub join_refused : (due : Status) → IsJoinDue input due → (status ≡ due) ⊎ (status ≡ ended.NoMemory)
  join_refused due is = refuses_join law input due status is (join_says status ends)
