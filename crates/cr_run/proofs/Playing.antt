-- A job taken by worker 0 where nobody holds one, and handed in.
use Rattle.std.proofs.Common.{◌≡◌, ◌≢◌, ℕ, zero, suc, ◌+◌, ◌-◌, ◌<◌, ◌≤◌, ◌⊎◌, Bool, true, false, cond, not, ◌||◌, List, [], ◌∷◌, ◌++◌, length, get_or, set, flat_map, sum_by, All, Option, Some, None, is_some, inl, inr, refl, sym, ap, ◌∙◌, subst, arith}
use Rattle.std.specs.Prelude.{find}
use Rattle.std.specs.List.{range_with_len}
use Rattle.std.proofs.lemmas.Bool.{lt-ltb, eqb-true, eqb-false, false≢true}
use Rattle.std.proofs.lemmas.List.{get_or-set_same, get_or-append-add, length-append}
use Rattle.std.proofs.lemmas.List.Concat.{flat_map-cons}
use Rattle.std.proofs.lemmas.List.Sums.{sum_by-cons}
use Rattle.cr_model.specs.Problems.{ProblemParts}
use Rattle.cr_model.specs.Dead.{remaining_of}
use Rattle.cr_model.specs.Sizes.{most_rows, size_within, size, size_of_all}
use Rattle.cr_node.specs.Work.{Work}
use Rattle.cr_board.specs.Jobs.{JobParts, OpeningParts}
use Rattle.cr_board.specs.Boards.{BoardParts, held_at, held_jobs, held_grant, jobs_of, nodes_of, promised}
use Rattle.cr_board.specs.ReplayStates.{AreAllowed, start, replay, grant_of, granted}
use Rattle.cr_board.specs.Partitions.{HasShape, Partition, IsKept}
use Rattle.cr_board.specs.Choices.{is_stranger, is_spent, is_holding, refusal_of, refusal_to, next_place, next_answer, answer_by, waits_for, first_from, grant_now, job_at}
use Rattle.cr_board.specs.Moves.{taken_at, after_ask, after_next, handed_in}
use Rattle.cr_board.specs.Steps.{IsWorked, WorkStep, EventStep, Ran}
use Rattle.cr_board.specs.declared.held.Held.{Held}
use Rattle.cr_board.specs.declared.place.Place.{Place}
use Rattle.cr_board.specs.declared.entry.Entry.{Entry}
use Rattle.cr_board.specs.declared.event.Event.{Event}
use Rattle.cr_board.specs.declared.event.Event.TheVariants.{Next, Work as Works}
use Rattle.cr_board.specs.declared.refusal.Refusal.TheVariants as refusal
use Rattle.cr_board.specs.declared.taken.Taken.TheVariants as taken
use Rattle.cr_run.specs.Runs.{HasEnded, events_alone}

-- what laws of boards say
abbrev pub BudgetIsKept : Type 0
BudgetIsKept = (o : OpeningParts) (journal : List Entry) (budget : ℕ) → 1 ≤ o.workers → AreAllowed o (start o) journal
    → o.budget ≡ Some budget → (replay o journal).spent + sum_by grant_of (replay o journal).held ≤ budget

abbrev pub EmptyIsDone : Type 0
EmptyIsDone = (b : BoardParts) (worker : ℕ) → HasShape b → next_answer b worker ≡ taken.Empty → jobs_of b ≡ []

abbrev pub EventKeeps : Type 0
EventKeeps = (b after : BoardParts) (event : Event) → Partition b → EventStep b event after → Partition after

abbrev pub EventsKeep : Type 0
EventsKeep = (b after : BoardParts) (events : List Event) → Partition b → Ran b events after → Partition after

abbrev pub EventsChain : Type 0
EventsChain = (b middle after : BoardParts) (events more : List Event) → Ran b events middle → Ran middle more after → Ran b (events ++ more) after

-- where nobody holds a job
some_job : (held : Held) (rest : List JobParts) → held_jobs (Some held) ++ rest ≡ [] → ⊥
some_job held rest e = let none : length (held.job ∷ rest) ≡ 0 = ap length e in omega (arith, none)

rest_idle : (held : List (Option Held)) → flat_map held_jobs (None ∷ held) ≡ [] → flat_map held_jobs held ≡ []
rest_idle held idle = sym (flat_map-cons held_jobs None held) ∙ idle

nothing_at : (held : List (Option Held)) → flat_map held_jobs held ≡ [] → (worker : ℕ) → held_at held worker ≡ None
nothing_at [] idle worker = refl
nothing_at (None ∷ held) idle zero = refl
nothing_at (None ∷ held) idle (suc worker) = nothing_at held (rest_idle held idle) worker
nothing_at (Some mine ∷ held) idle worker = absurd (some_job mine (flat_map held_jobs held) (sym (flat_map-cons held_jobs (Some mine) held) ∙ idle))

no_grant : (held : List (Option Held)) → flat_map held_jobs held ≡ [] → sum_by held_grant held ≡ 0
no_grant [] idle = refl
no_grant (None ∷ held) idle = omega (arith, sum_by-cons held_grant None held, no_grant held (rest_idle held idle))
no_grant (Some mine ∷ held) idle = absurd (some_job mine (flat_map held_jobs held) (sym (flat_map-cons held_jobs (Some mine) held) ∙ idle))

-- worker 0 takes a job and lets it go
idle_again : (held : List (Option Held)) (mine : Held) → flat_map held_jobs held ≡ [] → flat_map held_jobs (set (set held 0 (Some mine)) 0 None) ≡ []
idle_again [] mine idle = refl
idle_again (None ∷ held) mine idle = idle
idle_again (Some other ∷ held) mine idle = absurd (some_job other (flat_map held_jobs held) (sym (flat_map-cons held_jobs (Some other) held) ∙ idle))

-- a search that never passes
none_passes : (test : ℕ → Bool) → ((k : ℕ) → test k ≡ false) → (from count : ℕ) → find test (range_with_len from count) ≡ None
none_passes test never from zero = refl
none_passes test never from (suc count) = ap (λ b. cond b (Some from) (find test (range_with_len (from + 1) count))) (never from) ∙ none_passes test never (from + 1) count

-- the size of a node is one at least, and so is that of a job
one_at_least : (p : ProblemParts) (most changes : ℕ) (node : List ℕ) → 1 ≤ size_within p most changes node
unfolding size_within
one_at_least p most zero node = omega arith
one_at_least p most (suc changes) node = omega arith

pub some_size : (p : ProblemParts) (most : ℕ) (nodes : List (List ℕ)) → 0 < length nodes → 1 ≤ size_of_all p most nodes
some_size p most [] some = absurd (omega arith)
some_size p most (node ∷ nodes) some = omega (arith, sum_by-cons (size p most) node nodes, one_at_least p most (remaining_of p node) node)

-- where nobody holds a job, what was promised is what was spent, and that is within the budget
module _ (b : BoardParts) (idle : flat_map held_jobs b.held ≡ []) where
  pub promised_is : promised b ≡ b.spent
  promised_is = omega (arith, no_grant b.held idle)

  spent_ends : is_spent b.opening.budget (promised b) ≡ true → b.opening.budget ≡ Some b.spent
  spent_ends is = by b.opening.budget refl
    where
      by : (budget : Option ℕ) → b.opening.budget ≡ budget → b.opening.budget ≡ Some b.spent
      by None e = absurd (false≢true (sym (ap (λ o. is_spent o (promised b)) e) ∙ is))
      by (Some budget) e = e ∙ ap Some (eqb-true budget (promised b) (sym (ap (λ o. is_spent o (promised b)) e) ∙ is) ∙ promised_is)

  -- a worker that holds nothing and stays is refused only where the budget is spent
  module _ (stays : get_or b.resigned 0 false ≡ false) (workers : 1 ≤ b.opening.workers) (going : HasEnded b → ⊥) where
    no_stranger : is_stranger b 0 ≡ false
    no_stranger = ap (λ i. not i || get_or b.resigned 0 false) (lt-ltb 0 b.opening.workers workers) ∙ stays

    not_spent : is_spent b.opening.budget (promised b) ≡ false
    not_spent = by (is_spent b.opening.budget (promised b)) refl
      where
        by : (s : Bool) → is_spent b.opening.budget (promised b) ≡ s → is_spent b.opening.budget (promised b) ≡ false
        by true e = absurd (going (inr (spent_ends e)))
        by false e = e

    pub not_refused : refusal_of b 0 ≡ None
    not_refused =
        ap (λ s. cond s (Some refusal.Stranger) (refusal_to b (held_at b.held 0))) no_stranger
        ∙ ap (refusal_to b) (nothing_at b.held idle 0)
        ∙ ap (λ s. cond s (Some refusal.Spent) None) not_spent

    pub some_place : EmptyIsDone → HasShape b → (place : Place) × (next_place b 0 ≡ Some place)
    some_place empty shape = by (next_place b 0) refl
      where
        nobody : first_from (is_holding b.held) 0 b.opening.workers ≡ None
        nobody = none_passes (is_holding b.held) (λ k. ap is_some (nothing_at b.held idle k)) 0 (b.opening.workers - 0)

        by : (at : Option Place) → next_place b 0 ≡ at → (place : Place) × (next_place b 0 ≡ Some place)
        by (Some place) e = (place, e)
        by None e = absurd (going (inl (empty b 0 shape (ap (λ r. answer_by b r (next_place b 0)) not_refused ∙ ap (answer_by b None) e ∙ ap waits_for nobody))))

    -- a take grants at least one turn
    pub some_grant : ((budget : ℕ) → b.opening.budget ≡ Some budget → b.spent ≤ budget) → 1 ≤ grant_now b
    some_grant within = by b.opening.budget refl
      where
        by : (budget : Option ℕ) → b.opening.budget ≡ budget → 1 ≤ granted b.opening.budget (promised b)
        by None e = subst (λ o. 1 ≤ granted o (promised b)) (sym e) (omega arith)
        by (Some budget) e =
            let differ : budget ≢ promised b = eqb-false budget (promised b) (sym (ap (λ o. is_spent o (promised b)) e) ∙ not_spent) in
            subst (λ o. 1 ≤ granted o (promised b)) (sym e) (grind (arith, differ, within budget e, promised_is))

-- a board never spends more than its budget
pub spent_within : BudgetIsKept → (b : BoardParts) → IsKept b → (budget : ℕ) → b.opening.budget ≡ Some budget → b.spent ≤ budget
spent_within law b kept budget e =
    let spent : b.spent ≡ (replay b.opening b.journal).spent = ap (λ h. h.spent) kept.replayed.replay_state in
    omega (arith, spent, law b.opening b.journal budget kept.opening.some kept.replayed.allowed e)

-- what is held after a take, and the job that is held
held_now : (held : List (Option Held)) (mine : Held) → 0 < length held → held_at (set held 0 (Some mine)) 0 ≡ Some mine
held_now held mine some = get_or-set_same held 0 (Some mine) None some

some_nodes : (lanes : List JobParts) (held : List (Option Held)) (mine : Held) → 0 < length held
    → All (λ job. 0 < length job.nodes) (lanes ++ flat_map held_jobs (set held 0 (Some mine))) → 0 < length mine.job.nodes
some_nodes lanes [] mine some filled = absurd (omega arith)
some_nodes lanes (other ∷ held) mine some filled =
    let rest = flat_map held_jobs held in
    let jobs : flat_map held_jobs (Some mine ∷ held) ≡ mine.job ∷ rest = flat_map-cons held_jobs (Some mine) held in
    let all : All (λ job. 0 < length job.nodes) (lanes ++ mine.job ∷ rest) = subst (λ js. All (λ job. 0 < length job.nodes) (lanes ++ js)) jobs filled in
    let last : get_or (lanes ++ mine.job ∷ rest) (length lanes + 0) mine.job ≡ mine.job = get_or-append-add lanes (mine.job ∷ rest) 0 mine.job in
    subst (λ job. 0 < length job.nodes) last (all (length lanes + 0) mine.job (omega (arith, length-append lanes (mine.job ∷ rest))))

-- work on a job takes at least one turn
some_turns : (p : ProblemParts) (nodes rest : List (List ℕ)) (used grant : ℕ) → 0 < length nodes → 1 ≤ grant
    → size_of_all p most_rows rest + used ≡ size_of_all p most_rows nodes → (rest ≡ []) ⊎ (used ≡ grant) → 1 ≤ used
some_turns p nodes rest used grant some granting size (inl none) =
    let nothing : size_of_all p most_rows rest ≡ 0 = ap (size_of_all p most_rows) none in
    omega (arith, size, nothing, some_size p most_rows nodes some)
some_turns p nodes rest used grant some granting size (inr all) = omega (arith, granting, all)

-- a board after worker 0 took a job, explored it and handed it in: it may go on, and less is left
pub record IsPlayed (b after : BoardParts) : Type 0 where
  pub opening : after.opening ≡ b.opening
  pub idle : flat_map held_jobs after.held ≡ []
  pub stays : get_or after.resigned 0 false ≡ false
  pub less : size_of_all after.opening.problem most_rows (nodes_of after) < size_of_all b.opening.problem most_rows (nodes_of b)

module _ (b : BoardParts) (kept : IsKept b) (idle : flat_map held_jobs b.held ≡ []) (stays : get_or b.resigned 0 false ≡ false) (going : HasEnded b → ⊥) where
  some_held : 0 < length b.held
  some_held = omega (arith, kept.partition.shape.held, kept.opening.some)

  module _ (place : Place) (taken : Partition (taken_at b 0 place)) (granting : 1 ≤ grant_now b) where
    abbrev mine : Held
    mine = record { job = job_at b.lanes place; grant = grant_now b }

    worked : (work : Work) → IsWorked (taken_at b 0 place) (record { job = job_at b.lanes place; grant = grant_now b }) work → (after : BoardParts) → after ≡ handed_in (taken_at b 0 place) 0 (job_at b.lanes place).number work
        → Partition after → IsPlayed b after
    worked work is after same part =
        let some = some_nodes (flat_map (λ lane. lane) (taken_at b 0 place).lanes) b.held (record { job = job_at b.lanes place; grant = grant_now b }) some_held taken.filled in
        let turns : 1 ≤ work.used = some_turns b.opening.problem (job_at b.lanes place).nodes work.rest work.used (grant_now b) some granting is.size is.ends in
        let whole : Partition (handed_in (taken_at b 0 place) 0 (job_at b.lanes place).number work) = subst Partition same part in
        subst (IsPlayed b) (sym same) (record {
          opening = refl;
          idle = idle_again b.held (record { job = job_at b.lanes place; grant = grant_now b }) idle;
          stays = stays;
          less = omega (arith, turns, whole.nodes.size, kept.partition.nodes.size);
        })

    step : (after : BoardParts) → WorkStep (taken_at b 0 place) 0 (held_at (taken_at b 0 place).held 0) after → Partition after → IsPlayed b after
    step after is part =
        let (work, done, same) = subst (λ held. WorkStep (taken_at b 0 place) 0 held after)
        (held_now b.held (record { job = job_at b.lanes place; grant = grant_now b }) some_held) is in
        worked work done after same part

  -- a take and the work on what was taken
  pub played : BudgetIsKept → EmptyIsDone → EventKeeps → EventsKeep → (after : BoardParts) → Ran b (Next 0 ∷ Works 0 ∷ []) after → IsPlayed b after
  played budget empty event events after ran =
      let (place, at) = some_place b idle stays kept.opening.some going empty kept.partition.shape in
      let next : after_next b 0 ≡ taken_at b 0 place =
      ap (λ r. after_ask b 0 r (next_place b 0)) (not_refused b idle stays kept.opening.some going) ∙ ap (after_ask b 0 None) at in
      let (first, asked, then) = ran in
      let (second, works, same) = then in
      let took : first ≡ taken_at b 0 place = asked ∙ next in
      let part : Partition after = events b after (Next 0 ∷ Works 0 ∷ []) kept.partition ran in
      step place (event b (taken_at b 0 place) (Next 0) kept.partition (sym next))
      (some_grant b idle stays kept.opening.some going (spent_within budget b kept)) after
      (subst (λ board. WorkStep (taken_at b 0 place) 0 (held_at (taken_at b 0 place).held 0) board) (sym same)
      (subst (λ board. WorkStep board 0 (held_at board.held 0) second) took works)) part

-- what a run keeps: the board is one that was played by worker 0 alone from the first, and may go on
pub record IsGoing (first b : BoardParts) : Type 0 where
  pub opening : b.opening ≡ first.opening
  pub idle : flat_map held_jobs b.held ≡ []
  pub stays : get_or b.resigned 0 false ≡ false
  pub ran : (jobs : ℕ) × Ran first (events_alone jobs) b

pub goes_on : EventsChain → (first b after : BoardParts) → IsGoing first b → Ran b (Next 0 ∷ Works 0 ∷ []) after → IsPlayed b after → IsGoing first after
goes_on chain first b after going ran is = record {
  opening = is.opening ∙ going.opening;
  idle = is.idle;
  stays = is.stays;
  ran = (suc going.ran.0, chain first b after (events_alone going.ran.0) (Next 0 ∷ Works 0 ∷ []) going.ran.1 ran);
}
