-- What a board keeps, after each of its calls.
use Rattle.std.proofs.Common.{◌≡◌, ℕ, zero, suc, ◌+◌, ◌≤◌, Bool, true, false, cond, nat_lt, List, [], ◌∷◌, set, replicate, Option, Some, None, Result, Ok, Err, OnErr, refl, sym, ap, ◌∙◌, subst, arith}
use Rattle.cr_node.specs.Work.{Work, IsDone}
use Rattle.cr_model.specs.Nodes.{Splits}
use Rattle.cr_model.specs.Sizes.{most_rows, size_of_all}
use Rattle.cr_board.specs.Jobs.{JobParts, OpeningParts, IsOpening}
use Rattle.cr_board.specs.declared.entry.Entry.{Entry}
use Rattle.cr_board.specs.Boards.{BoardParts, held_at, opened}
use Rattle.cr_board.specs.ReplayStates.{IsReplayed}
use Rattle.cr_board.specs.Choices.{refusal_of, next_place, claim_place, Stands}
use Rattle.cr_board.specs.Partitions.{IsKept}
use Rattle.cr_board.specs.Moves.{taken_at, after_ask, put_back, given_back, after_resigning, back_below, after_recall, handed_in, IsDue}
use Rattle.cr_board.specs.declared.held.Held.{Held}
use Rattle.cr_board.specs.declared.place.Place.{Place}
use Rattle.cr_board.specs.declared.refusal.Refusal.{Refusal}
use Rattle.cr_board.specs.declared.event.Event.{Event}
use Rattle.cr_board.specs.declared.event.Event.TheVariants.{Next, Claim, Work as Works, Resign, Recall}
use Rattle.cr_board.specs.Steps.{WorkStep, EventStep, Ran}
use Rattle.cr_board.proofs.Parting.{AmongOthers}
use Rattle.cr_board.proofs.Asking.{free_from, next_stands, claim_stands}
use Rattle.cr_board.proofs.Moving.{after_take, after_hand}
use Rattle.cr_board.proofs.Events.{after_leaving, after_recalling, giving_keeps, below_keeps, opening_stays}
use Rattle.cr_board.proofs.Openings.{opened_is}
use Rattle.cr_board.proofs.Replaying.{take_replayed, back_replayed, hand_replayed, opened_replayed}

pub open_keeps : (o : OpeningParts) → IsOpening o → IsKept (opened o)
open_keeps o opening = record { opening = opening; partition = opened_is o opening; replayed = opened_replayed o }

pub take_keeps : (b : BoardParts) (worker : ℕ) (place : Place) → refusal_of b worker ≡ None → Stands b.lanes place → IsKept b → IsKept (taken_at b worker place)
take_keeps b worker place free stands kept =
    let is = free_from b worker free in
    record {
      opening = kept.opening;
      partition = after_take b kept.partition worker place (omega (arith, is.worker, kept.partition.shape.held)) is.idle is.stays stands;
      replayed = take_replayed b kept.replayed worker place is stands;
    }

giving_replayed : (b : BoardParts) (worker : ℕ) → IsReplayed b → IsReplayed (given_back b worker)
giving_replayed b worker replayed = by (held_at b.held worker) refl
  where
    by : (h : Option Held) → held_at b.held worker ≡ h → IsReplayed (put_back b worker h)
    by None e = replayed
    by (Some mine) e = back_replayed b replayed worker mine e

-- who resigned is not told by the journal
flags_replayed : (b : BoardParts) (flags : List Bool) → IsReplayed b → IsReplayed (record b { resigned = flags })
flags_replayed b flags replayed = record { allowed = replayed.allowed; replay_state = replayed.replay_state; found = replayed.found }

below_replayed : (b : BoardParts) (count : ℕ) → IsReplayed b → IsReplayed (back_below b count)
below_replayed b zero replayed = replayed
below_replayed b (suc worker) replayed = giving_replayed (back_below b worker) worker (below_replayed b worker replayed)

pub resign_keeps : (b : BoardParts) (worker : ℕ) → IsKept b → IsKept (after_resigning b worker)
resign_keeps b worker kept = record {
  opening = subst IsOpening (sym (giving_keeps b worker).0) kept.opening;
  partition = after_leaving b kept.partition worker;
  replayed = flags_replayed (given_back b worker) (set b.resigned worker true) (giving_replayed b worker kept.replayed);
}

pub recall_keeps : (b : BoardParts) → IsKept b → IsKept (after_recall b)
recall_keeps b kept = record {
  opening = subst IsOpening (sym (below_keeps b b.opening.workers)) kept.opening;
  partition = after_recalling b kept.partition;
  replayed = flags_replayed (back_below b b.opening.workers) (replicate b.opening.workers false) (below_replayed b b.opening.workers kept.replayed);
}

pub hand_keeps : AmongOthers → (b : BoardParts) (worker : ℕ) (mine : Held) (work : Work) → held_at b.held worker ≡ Some mine
    → Splits b.opening.problem mine.job.nodes work.found work.rest
    → size_of_all b.opening.problem most_rows work.rest + work.used ≡ size_of_all b.opening.problem most_rows mine.job.nodes
    → work.used ≤ mine.grant → IsKept b → IsKept (handed_in b worker mine.job.number work)
hand_keeps among b worker mine work holds splits sizes within kept = record {
  opening = kept.opening;
  partition = after_hand b kept.partition worker mine holds among mine.job.number work splits sizes;
  replayed = hand_replayed b kept.replayed worker mine holds work within;
}

-- what holds holds of an error
pub on_err : {X E : Type 0} (r : Result X E) (P : Type 0) → P → OnErr r P
on_err (Ok x) P p = tt
on_err (Err e) P p = p

-- parts that agree are one board
pub same_board : (o : OpeningParts) (lanes more : List (List JobParts)) (held other : List (Option Held)) (flags signs : List Bool) (found touches : List (List ℕ)) (spent next number : ℕ) (journal entries : List Entry)
    → lanes ≡ more → held ≡ other → flags ≡ signs → found ≡ touches → next ≡ number → journal ≡ entries
    → ◌≡◌ {A = BoardParts} (record { opening = o; lanes = lanes; held = held; resigned = flags; found = found; spent = spent; next = next; journal = journal })
    (record { opening = o; lanes = more; held = other; resigned = signs; found = touches; spent = spent; next = number; journal = entries })
same_board o lanes more held other flags signs found touches spent next number journal entries a b c d e f =
    λ i. record { opening = o; lanes = a i; held = b i; resigned = c i; found = d i; spent = spent; next = e i; journal = f i }

pub due_keeps : AmongOthers → (b : BoardParts) (worker number : ℕ) (work : Work) → IsDue b worker number work
    → IsDone work.problem work.job work.found work.rest work.used → IsKept b → IsKept (handed_in b worker number work)
due_keeps among b worker number work due done kept =
    subst (λ n. IsKept (handed_in b worker n work)) due.number_is
    (hand_keeps among b worker due.held work due.holds
    (subst (λ p. Splits p due.held.job.nodes work.found work.rest) due.problem (subst (λ j. Splits work.problem j work.found work.rest) due.job done.splits))
    (subst (λ p. size_of_all p most_rows work.rest + work.used ≡ size_of_all p most_rows due.held.job.nodes) due.problem
    (subst (λ j. size_of_all work.problem most_rows work.rest + work.used ≡ size_of_all work.problem most_rows j) due.job done.size))
    due.within kept)

-- an event keeps all that a board keeps
asking_keeps : (b : BoardParts) (worker : ℕ) (place : Option Place) → (refusal_of b worker ≡ None → (at : Place) → place ≡ Some at → Stands b.lanes at)
    → IsKept b → IsKept (after_ask b worker (refusal_of b worker) place)
asking_keeps b worker place stands kept = by (refusal_of b worker) refl place refl
  where
    by : (r : Option Refusal) → refusal_of b worker ≡ r → (at : Option Place) → place ≡ at → IsKept (after_ask b worker r at)
    by (Some r) e at f = kept
    by None e None f = kept
    by None e (Some at) f = take_keeps b worker at e (stands e at f) kept

pub event_keeps : AmongOthers → (b after : BoardParts) (event : Event) → IsKept b → EventStep b event after → IsKept after
event_keeps among b after (Next worker) kept step = subst IsKept (sym step)
    (asking_keeps b worker (next_place b worker) (λ free at e. next_stands b kept.partition.shape.lanes worker at (free_from b worker free).worker e) kept)
event_keeps among b after (Claim worker number) kept step = subst IsKept (sym step)
    (asking_keeps b worker (claim_place b number) (λ free at e. (claim_stands b kept.partition.shape.lanes number at e).0) kept)
event_keeps among b after (Works worker) kept step = by (held_at b.held worker) refl step
  where
    by : (h : Option Held) → held_at b.held worker ≡ h → WorkStep b worker h after → IsKept after
    by None e same = subst IsKept (sym same) kept
    by (Some mine) e (work, worked, is) = subst IsKept (sym is) (hand_keeps among b worker mine work e worked.splits worked.size worked.within kept)
event_keeps among b after (Resign worker) kept step = subst IsKept (sym step) (by (nat_lt worker b.opening.workers))
  where
    by : (inside : Bool) → IsKept (cond inside (after_resigning b worker) b)
    by true = resign_keeps b worker kept
    by false = kept
event_keeps among b after Recall kept step = subst IsKept (sym step) (recall_keeps b kept)

-- and so do events
pub events_keep : AmongOthers → (b after : BoardParts) (events : List Event) → IsKept b → Ran b events after → IsKept after
events_keep among b after [] kept ran = subst IsKept (sym ran) kept
events_keep among b after (event ∷ events) kept (middle, step, ran) = events_keep among middle after events (event_keeps among b middle event kept step) ran

-- on the board's own opening
pub opening_kept : (b after : BoardParts) (events : List Event) → Ran b events after → after.opening ≡ b.opening
opening_kept b after [] ran = ap (λ a. a.opening) ran
opening_kept b after (event ∷ events) (middle, step, ran) = opening_kept middle after events ran ∙ opening_stays b middle event step
