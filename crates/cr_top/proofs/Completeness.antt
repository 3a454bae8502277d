-- What a call ends with where no read and no write failed: each input has the answer that it is due, unless memory was
-- wanting.
use Rattle.std.proofs.Common.{◌≡◌, ℕ, ◌^◌, ◌<◌, ◌≤◌, ◌⊎◌, List, length, Option, Some, None, refl, sym, ap, ◌∙◌, subst, arith}
use Rattle.std.proofs.Common.{inl, inr, length-append}
use Rattle.std.specs.Prelude.{⊤}
use Rattle.std.specs.Io.KnownBytes.{Consumes}
use Rattle.cr_io.specs.Causes.{Rose}
use Rattle.cr_io.specs.Ends.{TookMore}
use Rattle.cr_model.specs.Problems.{ProblemParts}
use Rattle.cr_model.specs.Sizes.{most_rows, size_of_all}
use Rattle.cr_model.specs.declared.file_fault.ProblemFault.{ProblemFault}
use Rattle.cr_model.specs.Inputs.{Input}
use Rattle.cr_store.specs.declared.fault.CheckFault.{CheckFault}
use Rattle.cr_top.specs.declared.status.Status.{Status}
use Rattle.cr_top.specs.declared.status.Status.TheVariants as ended
use Rattle.cr_top.specs.OneAnswer.{HasOneAnswer}
use Rattle.cr_trail.specs.Runs.{KeepsTo}
use Rattle.cr_top.specs.Texts.{IsBookOf, IsStopOf, IsReached, IsTextOf, IsNoProblem, IsNoCheckpoint}
use Rattle.cr_top.specs.Streams.{Reading, Writing, WasRead, WasTold}
use Rattle.cr_top.specs.Endings.{IsDue, EndsSearch, EndsMake}

-- no more was taken than was left
pub taken_of_told : (left now : Option (List ℕ)) (told taken : List ℕ) → left ≡ Some told → Consumes left now taken
    → length taken ≤ length told
taken_of_told None now told taken is consumed = absurd (cc)
taken_of_told (Some xs) None told taken is consumed = absurd consumed
taken_of_told (Some xs) (Some ys) told taken is consumed =
    let same : xs ≡ told = cc in
    omega (arith, ap length same, ap length consumed, length-append taken ys)

pub the_input : (left : Option (List ℕ)) (told input : List ℕ) → left ≡ Some told → WasTold left input → told ≡ input
the_input None told input is was = absurd (cc)
the_input (Some xs) told input is was = let same : xs ≡ told = cc in sym same ∙ was

-- what a status says of an input that was told, where no read failed
abbrev pub Says : Option ℕ → List ℕ → Status → Type 0
Says turns input ended.Finished = (length input ≤ 2 ^ 40) × ((text : List ℕ) × IsBookOf turns input text)
Says turns input (ended.Stopped after) = (length input ≤ 2 ^ 40) × ((text : List ℕ) × IsReached turns input text (Some after))
Says turns input ended.WriteFault = (length input ≤ 2 ^ 40) × ((text : List ℕ) × IsTextOf turns input text)
Says turns input (ended.Problem fault) = (length input ≤ 2 ^ 40) × IsNoProblem input fault
Says turns input (ended.Checkpoint fault) = (length input ≤ 2 ^ 40) × IsNoCheckpoint input fault
Says turns input ended.TooLong = 2 ^ 40 < length input
Says turns input ended.NoMemory = ⊤
Says turns input status = ⊥

module _ {S K : Type 0} (source : Reading S) (sink : Writing K) (turns : Option ℕ) where
  -- a search from a source that told its bytes, with no read that failed
  module _ (shows : (taken : List ℕ) → source.took source.old source.new taken → Consumes (source.left source.old) (source.left source.new) taken)
      (input : List ℕ) (told : source.left source.old ≡ Some input)
      (reads : Rose (source.faults source.old) (source.faults source.new) → ⊥) where
    same : (taken : List ℕ) → WasRead source taken → taken ≡ input
    same taken is = sym (the_input (source.left source.old) input taken told is.told)

    pub says : (status : Status) → EndsSearch source sink turns status → Says turns input status
    says ended.Finished ends =
        subst (λ x. (length x ≤ 2 ^ 40) × ((text : List ℕ) × IsBookOf turns x text)) (same ends.0 ends.2) (ends.2.short, (ends.1, ends.3))
    says (ended.Stopped after) ends =
        subst (λ x. (length x ≤ 2 ^ 40) × ((text : List ℕ) × IsReached turns x text (Some after))) (same ends.0 ends.2)
        (ends.2.short, (ends.1, (ends.3, ends.4)))
    says ended.WriteFault ends =
        subst (λ x. (length x ≤ 2 ^ 40) × ((text : List ℕ) × IsTextOf turns x text)) (same ends.0 ends.2) (ends.2.short, (ends.1, ends.3))
    says (ended.Problem fault) ends =
        subst (λ x. (length x ≤ 2 ^ 40) × IsNoProblem x fault) (same ends.0.0 ends.0.1) (ends.0.1.short, ends.0.2)
    says (ended.Checkpoint fault) ends =
        subst (λ x. (length x ≤ 2 ^ 40) × IsNoCheckpoint x fault) (same ends.0.0 ends.0.1) (ends.0.1.short, ends.0.2)
    says ended.TooLong ends =
        let more : TookMore source.took source.old source.new (2 ^ 40) = ends.0.0 in
        omega (arith, more.2, taken_of_told _ _ input more.0 told (shows more.0 more.1))
    says ended.NoMemory ends = tt
    says (ended.Words fault) ends = absurd ends.0
    says ended.ReadFault ends = absurd (reads ends.0.1)
    says (ended.Trail fault) ends = absurd ends.0
    says (ended.Join fault) ends = absurd ends.0
    says (ended.Audit fault) ends = absurd ends.0
    says ended.NotProblem ends = absurd ends.0

  -- where no write failed, a search did not end so
  pub no_write_fault : (Rose (sink.faults sink.old) (sink.faults sink.new) → ⊥) → (status : Status)
      → EndsSearch source sink turns status → status ≡ ended.WriteFault → ⊥
  no_write_fault writes status ends is =
      let cut : EndsSearch source sink turns ended.WriteFault = subst (EndsSearch source sink turns) is ends in
      writes cut.4.rose

-- a made problem's summary is written where no write failed and memory was there
pub made : {K : Type 0} (sink : Writing K) (number : ℕ) → (Rose (sink.faults sink.old) (sink.faults sink.new) → ⊥)
    → (status : Status) → EndsMake sink number status → (status ≡ ended.Finished) ⊎ (status ≡ ended.NoMemory)
made sink number writes ended.Finished ends = inl refl
made sink number writes ended.NoMemory ends = inr refl
made sink number writes ended.WriteFault ends = absurd (writes ends.2.rose)
made sink number writes (ended.Words fault) ends = absurd ends
made sink number writes (ended.Stopped after) ends = absurd ends
made sink number writes (ended.Problem fault) ends = absurd ends
made sink number writes (ended.Checkpoint fault) ends = absurd ends
made sink number writes ended.ReadFault ends = absurd ends
made sink number writes (ended.Trail fault) ends = absurd ends
made sink number writes (ended.Join fault) ends = absurd ends
made sink number writes (ended.Audit fault) ends = absurd ends
made sink number writes ended.NotProblem ends = absurd ends
made sink number writes ended.TooLong ends = absurd ends

-- each input has the answer that it is due, unless memory was wanting
module _ (input : List ℕ) (one : HasOneAnswer input) where
  module _ (turns : Option ℕ) (bytes : List ℕ) (p : ProblemParts) (found nodes : List (List ℕ)) (is : Input input bytes p found nodes)
      (short : length input ≤ 2 ^ 40) where
    -- a stop is before the whole size
    stops_before : (after : ℕ) (text : List ℕ) → IsStopOf after input text → after < size_of_all p most_rows nodes
    stops_before after text stop =
        omega (
          arith,
          stop.size,
          one.some stop.same.bytes stop.same.p stop.same.found stop.same.nodes stop.same.input stop.same.other_nodes stop.some,
          one.size short bytes p found nodes stop.same.found stop.same.bytes stop.same.p stop.same.nodes is stop.same.input,
        )

    few : (text : List ℕ) → IsBookOf turns input text → KeepsTo turns (size_of_all p most_rows nodes)
    few text book = subst (KeepsTo turns) (one.size short book.bytes book.p book.found book.nodes found bytes p nodes book.of_input is) book.keeps

    kept_turns : (turns : Option ℕ) (after number : ℕ) → turns ≡ Some after → KeepsTo turns number → number ≤ after
    kept_turns None after number is keeps = absurd (cc)
    kept_turns (Some most) after number is keeps = let same : most ≡ after = cc in omega (arith, same, keeps)

    -- with enough turns the book is written, unless a write failed
    pub finishes : KeepsTo turns (size_of_all p most_rows nodes) → (status : Status) → (status ≡ ended.WriteFault → ⊥) → Says turns input status
        → (status ≡ ended.Finished) ⊎ (status ≡ ended.NoMemory)
    finishes keeps ended.Finished writes says = inl refl
    finishes keeps ended.NoMemory writes says = inr refl
    finishes keeps (ended.Stopped after) writes says =
        absurd (omega (arith, stops_before after says.1.0 says.1.1.1, kept_turns turns after (size_of_all p most_rows nodes) says.1.1.0 keeps))
    finishes keeps ended.WriteFault writes says = absurd (writes refl)
    finishes keeps (ended.Problem fault) writes says = absurd (one.no_problem_fault bytes p found nodes fault is says.1)
    finishes keeps (ended.Checkpoint fault) writes says = absurd (one.no_check_fault short bytes p found nodes fault is says.1)
    finishes keeps ended.TooLong writes says = let long : 2 ^ 40 < length input = says in absurd (omega (arith, short))
    finishes keeps (ended.Words fault) writes says = absurd says
    finishes keeps ended.ReadFault writes says = absurd says
    finishes keeps (ended.Trail fault) writes says = absurd says
    finishes keeps (ended.Join fault) writes says = absurd says
    finishes keeps (ended.Audit fault) writes says = absurd says
    finishes keeps ended.NotProblem writes says = absurd says

    -- with too few a checkpoint is
    pub stops : (after : ℕ) → turns ≡ Some after → after < size_of_all p most_rows nodes → (status : Status) → (status ≡ ended.WriteFault → ⊥)
        → Says turns input status → (status ≡ ended.Stopped after) ⊎ (status ≡ ended.NoMemory)
    stops after allowed less ended.Finished writes says =
        absurd (omega (arith, kept_turns turns after (size_of_all p most_rows nodes) allowed (few says.1.0 says.1.1)))
    stops after allowed less ended.NoMemory writes says = inr refl
    stops after allowed less (ended.Stopped other) writes says =
        let same : Some other ≡ Some after = sym says.1.1.0 ∙ allowed in
        let one : other ≡ after = cc in
        inl (ap ended.Stopped one)
    stops after allowed less ended.WriteFault writes says = absurd (writes refl)
    stops after allowed less (ended.Problem fault) writes says = absurd (one.no_problem_fault bytes p found nodes fault is says.1)
    stops after allowed less (ended.Checkpoint fault) writes says = absurd (one.no_check_fault short bytes p found nodes fault is says.1)
    stops after allowed less ended.TooLong writes says = let long : 2 ^ 40 < length input = says in absurd (omega (arith, short))
    stops after allowed less (ended.Words fault) writes says = absurd says
    stops after allowed less ended.ReadFault writes says = absurd says
    stops after allowed less (ended.Trail fault) writes says = absurd says
    stops after allowed less (ended.Join fault) writes says = absurd says
    stops after allowed less (ended.Audit fault) writes says = absurd says
    stops after allowed less ended.NotProblem writes says = absurd says

  -- what a text belongs to is an input
  reached_input : (turns : Option ℕ) (text : List ℕ) (stopped : Option ℕ) → IsReached turns input text stopped
      → (bytes : List ℕ) × (p : ProblemParts) × (found : List (List ℕ)) × (nodes : List (List ℕ)) × Input input bytes p found nodes
  reached_input turns text None book = (book.bytes, book.p, book.found, book.nodes, book.of_input)
  reached_input turns text (Some after) stop =
      (stop.1.same.bytes, stop.1.same.p, stop.1.same.found, stop.1.same.nodes, stop.1.same.input)

  not_both : (turns : Option ℕ) (text : List ℕ) (stopped : Option ℕ) (fault : ProblemFault) → IsReached turns input text stopped → IsNoProblem input fault → ⊥
  not_both turns text stopped fault reached wrong =
      let (bytes, p, found, nodes, is) = reached_input turns text stopped reached in one.no_problem_fault bytes p found nodes fault is wrong

  not_either : length input ≤ 2 ^ 40 → (turns : Option ℕ) (text : List ℕ) (stopped : Option ℕ) (fault : CheckFault) → IsReached turns input text stopped → IsNoCheckpoint input fault → ⊥
  not_either short turns text stopped fault reached wrong =
      let (bytes, p, found, nodes, is) = reached_input turns text stopped reached in one.no_check_fault short bytes p found nodes fault is wrong

  module _ (turns : Option ℕ) where
    no_problem : (fault : ProblemFault) (status : Status) → (length input ≤ 2 ^ 40) × IsNoProblem input fault → Says turns input status
        → (status ≡ ended.Problem fault) ⊎ (status ≡ ended.NoMemory)
    no_problem fault (ended.Problem other) due says = inl (ap ended.Problem (one.one_problem_fault other fault says.1 due.1))
    no_problem fault ended.NoMemory due says = inr refl
    no_problem fault (ended.Checkpoint other) due says = absurd (due.1.0 says.1.0)
    no_problem fault ended.Finished due says = absurd (not_both turns says.1.0 None fault says.1.1 due.1)
    no_problem fault (ended.Stopped after) due says = absurd (not_both turns says.1.0 (Some after) fault says.1.1 due.1)
    no_problem fault ended.WriteFault due says = absurd (not_both turns says.1.0 says.1.1.0 fault says.1.1.1 due.1)
    no_problem fault ended.TooLong due says = let long : 2 ^ 40 < length input = says in absurd (omega (arith, due.0))
    no_problem fault (ended.Words other) due says = absurd says
    no_problem fault ended.ReadFault due says = absurd says
    no_problem fault (ended.Trail other) due says = absurd says
    no_problem fault (ended.Join other) due says = absurd says
    no_problem fault (ended.Audit other) due says = absurd says
    no_problem fault ended.NotProblem due says = absurd says

    no_checkpoint : (fault : CheckFault) (status : Status) → (length input ≤ 2 ^ 40) × IsNoCheckpoint input fault → Says turns input status
        → (status ≡ ended.Checkpoint fault) ⊎ (status ≡ ended.NoMemory)
    no_checkpoint fault (ended.Checkpoint other) due says = inl (ap ended.Checkpoint (one.one_check_fault other fault says.1 due.1))
    no_checkpoint fault ended.NoMemory due says = inr refl
    no_checkpoint fault (ended.Problem other) due says = absurd (says.1.0 due.1.0)
    no_checkpoint fault ended.Finished due says = absurd (not_either due.0 turns says.1.0 None fault says.1.1 due.1)
    no_checkpoint fault (ended.Stopped after) due says = absurd (not_either due.0 turns says.1.0 (Some after) fault says.1.1 due.1)
    no_checkpoint fault ended.WriteFault due says = absurd (not_either due.0 turns says.1.0 says.1.1.0 fault says.1.1.1 due.1)
    no_checkpoint fault ended.TooLong due says = let long : 2 ^ 40 < length input = says in absurd (omega (arith, due.0))
    no_checkpoint fault (ended.Words other) due says = absurd says
    no_checkpoint fault ended.ReadFault due says = absurd says
    no_checkpoint fault (ended.Trail other) due says = absurd says
    no_checkpoint fault (ended.Join other) due says = absurd says
    no_checkpoint fault (ended.Audit other) due says = absurd says
    no_checkpoint fault ended.NotProblem due says = absurd says

    too_long : (status : Status) → 2 ^ 40 < length input → Says turns input status → (status ≡ ended.TooLong) ⊎ (status ≡ ended.NoMemory)
    too_long ended.TooLong due says = inl refl
    too_long ended.NoMemory due says = inr refl
    too_long ended.Finished due says = absurd (omega (arith, due, says.0))
    too_long (ended.Stopped after) due says = absurd (omega (arith, due, says.0))
    too_long ended.WriteFault due says = absurd (omega (arith, due, says.0))
    too_long (ended.Problem fault) due says = absurd (omega (arith, due, says.0))
    too_long (ended.Checkpoint fault) due says = absurd (omega (arith, due, says.0))
    too_long (ended.Words fault) due says = absurd says
    too_long ended.ReadFault due says = absurd says
    too_long (ended.Trail fault) due says = absurd says
    too_long (ended.Join fault) due says = absurd says
    too_long (ended.Audit fault) due says = absurd says
    too_long ended.NotProblem due says = absurd says

    -- each refusal that an input is due comes, unless memory was wanting
    pub refuses : (due status : Status) → IsDue input due → Says turns input status → (status ≡ due) ⊎ (status ≡ ended.NoMemory)
    refuses (ended.Problem fault) status is says = no_problem fault status is says
    refuses (ended.Checkpoint fault) status is says = no_checkpoint fault status is says
    refuses ended.TooLong status is says = too_long status is says
    refuses ended.Finished status is says = absurd is
    refuses (ended.Stopped after) status is says = absurd is
    refuses ended.WriteFault status is says = absurd is
    refuses ended.NoMemory status is says = absurd is
    refuses (ended.Words fault) status is says = absurd is
    refuses ended.ReadFault status is says = absurd is
    refuses (ended.Trail fault) status is says = absurd is
    refuses (ended.Join fault) status is says = absurd is
    refuses (ended.Audit fault) status is says = absurd is
    refuses ended.NotProblem status is says = absurd is

-- how a search ends from a source that told its bytes, where no read failed
module _ {S K : Type 0} (source : Reading S) (sink : Writing K) (turns : Option ℕ) (status : Status) (ends : EndsSearch source sink turns status)
    (shows : (taken : List ℕ) → source.took source.old source.new taken → Consumes (source.left source.old) (source.left source.new) taken)
    (input : List ℕ) (one : HasOneAnswer input) (told : source.left source.old ≡ Some input)
    (reads : Rose (source.faults source.old) (source.faults source.new) → ⊥) where
  said : Says turns input status
  said = says source sink turns shows input told reads status ends

  module _ (bytes : List ℕ) (p : ProblemParts) (found nodes : List (List ℕ)) (short : length input ≤ 2 ^ 40) (is : Input input bytes p found nodes)
      (writes : Rose (sink.faults sink.old) (sink.faults sink.new) → ⊥) where
    pub ends_finished : KeepsTo turns (size_of_all p most_rows nodes) → (status ≡ ended.Finished) ⊎ (status ≡ ended.NoMemory)
    ends_finished keeps = finishes input one turns bytes p found nodes is short keeps status (no_write_fault source sink turns writes status ends) said

    pub ends_stopped : (after : ℕ) → turns ≡ Some after → after < size_of_all p most_rows nodes
        → (status ≡ ended.Stopped after) ⊎ (status ≡ ended.NoMemory)
    ends_stopped after allowed less =
        stops input one turns bytes p found nodes is short after allowed less status (no_write_fault source sink turns writes status ends) said

  pub ends_refused : (due : Status) → IsDue input due → (status ≡ due) ⊎ (status ≡ ended.NoMemory)
  ends_refused due is = refuses input one turns due status is said
