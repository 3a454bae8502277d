-- Each event keeps the partition.
use Rattle.std.proofs.Common.{◌≡◌, ℕ, zero, suc, Bool, true, false, cond, nat_lt, List, [], ◌∷◌, ◌++◌, get_or, set, replicate, Option, Some, None, inl, inr, refl, sym, ap, ◌∙◌, subst, arith}
use Rattle.std.proofs.lemmas.Bool.{cases_lt, cases_eq, true≢false}
use Rattle.std.proofs.lemmas.List.{length-set, length-replicate, get_or-replicate, get_or_past, get_or-set_same, get_or-set_other}
use Rattle.cr_board.specs.Boards.{BoardParts, held_at}
use Rattle.cr_board.specs.Choices.{refusal_of, next_place, claim_place, Stands}
use Rattle.cr_board.specs.Partitions.{Partition}
use Rattle.cr_board.specs.Moves.{after_ask, put_back, given_back, after_resigning, back_below, after_recall}
use Rattle.cr_board.specs.Steps.{WorkStep, EventStep, Ran}
use Rattle.cr_board.specs.declared.held.Held.{Held}
use Rattle.cr_board.specs.declared.place.Place.{Place}
use Rattle.cr_board.specs.declared.refusal.Refusal.{Refusal}
use Rattle.cr_board.specs.declared.event.Event.{Event}
use Rattle.cr_board.specs.declared.event.Event.TheVariants.{Next, Claim, Work as Works, Resign, Recall}
use Rattle.cr_board.proofs.Parting.{AmongOthers}
use Rattle.cr_board.proofs.Asking.{free_from, next_stands, claim_stands}
use Rattle.cr_board.proofs.Moving.{after_take, after_back, after_hand, holder_inside}

-- a worker asked
pub after_asking : (b : BoardParts) (part : Partition b) (worker : ℕ) (place : Option Place)
    → (refusal_of b worker ≡ None → (at : Place) → place ≡ Some at → Stands b.lanes at) → Partition (after_ask b worker (refusal_of b worker) place)
after_asking b part worker place stands = by (refusal_of b worker) refl place refl
  where
    by : (r : Option Refusal) → refusal_of b worker ≡ r → (at : Option Place) → place ≡ at → Partition (after_ask b worker r at)
    by (Some r) e at f = part
    by None e None f = part
    by None e (Some at) f =
        let free = free_from b worker e in
        after_take b part worker at (omega (arith, free.worker, part.shape.held)) free.idle free.stays (stands e at f)

-- what a worker holds went back
pub after_giving : (b : BoardParts) (part : Partition b) (worker : ℕ) → Partition (given_back b worker)
after_giving b part worker = by (held_at b.held worker) refl
  where
    by : (h : Option Held) → held_at b.held worker ≡ h → Partition (put_back b worker h)
    by None e = part
    by (Some mine) e = after_back b part worker mine e

-- and then it holds nothing
pub gives_all : (b : BoardParts) (worker : ℕ) → held_at (given_back b worker).held worker ≡ None
gives_all b worker = by (held_at b.held worker) refl
  where
    by : (h : Option Held) → held_at b.held worker ≡ h → held_at (put_back b worker h).held worker ≡ None
    by None e = e
    by (Some mine) e = get_or-set_same b.held worker None None (holder_inside b.held worker mine e)

-- the opening and the flags stay
pub giving_keeps : (b : BoardParts) (worker : ℕ) → ((given_back b worker).opening ≡ b.opening) × ((given_back b worker).resigned ≡ b.resigned)
giving_keeps b worker = by (held_at b.held worker)
  where
    by : (h : Option Held) → ((put_back b worker h).opening ≡ b.opening) × ((put_back b worker h).resigned ≡ b.resigned)
    by None = (refl, refl)
    by (Some mine) = (refl, refl)

-- a worker resigned
pub after_leaving : (b : BoardParts) (part : Partition b) (worker : ℕ) → Partition (after_resigning b worker)
after_leaving b part worker = record {
  shape = record {
    lanes = back.shape.lanes;
    held = back.shape.held;
    resigned = length-set b.resigned worker true ∙ part.shape.resigned ∙ sym (ap (λ o. o.workers) same.0);
  };
  nodes = back.nodes;
  filled = back.filled;
  resigned = λ other gone. resigned other gone;
}
  where
    back : Partition (given_back b worker)
    back = after_giving b part worker

    same : ((given_back b worker).opening ≡ b.opening) × ((given_back b worker).resigned ≡ b.resigned)
    same = giving_keeps b worker

    resigned : (other : ℕ) → get_or (set b.resigned worker true) other false ≡ true → held_at (given_back b worker).held other ≡ None
    resigned other gone = elim (cases_eq other worker) [
      | inl e ↦ ap (λ k. held_at (given_back b worker).held k) e ∙ gives_all b worker
      | inr differ ↦ back.resigned other (ap (λ l. get_or l other false) same.1 ∙ sym (get_or-set_other b.resigned worker other true false differ) ∙ gone)
    ]

-- the workers below a number gave back
pub after_giving_below : (b : BoardParts) (part : Partition b) (count : ℕ) → Partition (back_below b count)
after_giving_below b part zero = part
after_giving_below b part (suc worker) = after_giving (back_below b worker) (after_giving_below b part worker) worker

pub below_keeps : (b : BoardParts) (count : ℕ) → (back_below b count).opening ≡ b.opening
below_keeps b zero = refl
below_keeps b (suc worker) = (giving_keeps (back_below b worker) worker).0 ∙ below_keeps b worker

-- all were recalled
pub after_recalling : (b : BoardParts) (part : Partition b) → Partition (after_recall b)
after_recalling b part = record {
  shape = record {
    lanes = back.shape.lanes;
    held = back.shape.held;
    resigned = length-replicate b.opening.workers false ∙ sym (ap (λ o. o.workers) (below_keeps b b.opening.workers));
  };
  nodes = back.nodes;
  filled = back.filled;
  resigned = λ other gone. absurd (true≢false (sym gone ∙ none other));
}
  where
    back : Partition (back_below b b.opening.workers)
    back = after_giving_below b part b.opening.workers

    none : (other : ℕ) → get_or (replicate b.opening.workers false) other false ≡ false
    none other = elim (cases_lt other b.opening.workers) [
      | inl inside ↦ get_or-replicate b.opening.workers other false false inside
      | inr past ↦ get_or_past (replicate b.opening.workers false) other false (omega (arith, length-replicate b.opening.workers false))
    ]

-- a worker worked
pub after_working : (among : AmongOthers) (b after : BoardParts) (part : Partition b) (worker : ℕ) → WorkStep b worker (held_at b.held worker) after → Partition after
after_working among b after part worker step = by (held_at b.held worker) refl step
  where
    by : (h : Option Held) → held_at b.held worker ≡ h → WorkStep b worker h after → Partition after
    by None e same = subst Partition (sym same) part
    by (Some mine) e (work, worked, is) = subst Partition (sym is) (after_hand b part worker mine e among mine.job.number work worked.splits worked.size)

-- an event
pub after_event : AmongOthers → (b after : BoardParts) (event : Event) → Partition b → EventStep b event after → Partition after
after_event among b after (Next worker) part step =
    subst Partition (sym step) (after_asking b part worker (next_place b worker)
    (λ free at e. next_stands b part.shape.lanes worker at (free_from b worker free).worker e))
after_event among b after (Claim worker number) part step =
    subst Partition (sym step) (after_asking b part worker (claim_place b number) (λ free at e. (claim_stands b part.shape.lanes number at e).0))
after_event among b after (Works worker) part step = after_working among b after part worker step
after_event among b after (Resign worker) part step = subst Partition (sym step) (by (nat_lt worker b.opening.workers))
  where
    by : (inside : Bool) → Partition (cond inside (after_resigning b worker) b)
    by true = after_leaving b part worker
    by false = part
after_event among b after Recall part step = subst Partition (sym step) (after_recalling b part)

-- events
pub after_events : AmongOthers → (b after : BoardParts) (events : List Event) → Partition b → Ran b events after → Partition after
after_events among b after [] part ran = subst Partition (sym ran) part
after_events among b after (event ∷ events) part (middle, step, ran) = after_events among middle after events (after_event among b middle event part step) ran

-- events one list after another
pub chained : (b middle after : BoardParts) (events more : List Event) → Ran b events middle → Ran middle more after → Ran b (events ++ more) after
chained b middle after [] more one two = subst (λ m. Ran m more after) one two
chained b middle after (event ∷ events) more (next, step, one) two = (next, step, chained next middle after events more one two)

-- one event more
pub ran_more : (b middle after : BoardParts) (events : List Event) (event : Event) → Ran b events middle → EventStep middle event after → Ran b (events ++ event ∷ []) after
ran_more b middle after events event ran step = chained b middle after events (event ∷ []) ran (after, step, refl)

-- the opening stays
asking_stays : (b : BoardParts) (worker : ℕ) (r : Option Refusal) (place : Option Place) → (after_ask b worker r place).opening ≡ b.opening
asking_stays b worker (Some r) place = refl
asking_stays b worker None (Some place) = refl
asking_stays b worker None None = refl

pub opening_stays : (b after : BoardParts) (event : Event) → EventStep b event after → after.opening ≡ b.opening
opening_stays b after (Next worker) step = ap (λ a. a.opening) step ∙ asking_stays b worker (refusal_of b worker) (next_place b worker)
opening_stays b after (Claim worker number) step = ap (λ a. a.opening) step ∙ asking_stays b worker (refusal_of b worker) (claim_place b number)
opening_stays b after (Works worker) step = by (held_at b.held worker) step
  where
    by : (h : Option Held) → WorkStep b worker h after → after.opening ≡ b.opening
    by None same = ap (λ a. a.opening) same
    by (Some mine) (work, worked, is) = ap (λ a. a.opening) is
opening_stays b after (Resign worker) step = ap (λ a. a.opening) step ∙ by (nat_lt worker b.opening.workers)
  where
    by : (inside : Bool) → (cond inside (after_resigning b worker) b).opening ≡ b.opening
    by true = (giving_keeps b worker).0
    by false = refl
opening_stays b after Recall step = ap (λ a. a.opening) step ∙ below_keeps b b.opening.workers
