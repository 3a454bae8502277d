-- The journal tells the board after a take, a Back and a hand-in.
use Rattle.std.proofs.Common.{◌≡◌, ◌≢◌, ℕ, zero, suc, ◌+◌, ◌<◌, ◌≤◌, false, List, [], ◌∷◌, ◌++◌, length, get_or, set, map, replicate, sum_by, Contains, Option, Some, None, refl, sym, ap, ap₂, ◌∙◌, subst, arith, length-append}
use Rattle.std.specs.Prelude.{remove}
use Rattle.std.proofs.lemmas.Bool.{eqb-false}
use Rattle.std.proofs.lemmas.List.{map-set, map-append, append-nil, append_assoc, get_or-map, length-map}
use Rattle.std.proofs.lemmas.List.Sums.{sum_by_push, sum_by-cons, sum_by-set}
use Rattle.cr_node.specs.Work.{Work}
use Rattle.cr_board.specs.Jobs.{JobParts, OpeningParts, numbered}
use Rattle.cr_board.specs.Boards.{BoardParts, lane_at, held_at, held_grant, promised, opened}
use Rattle.cr_board.specs.ReplayStates.{Hold, ReplayState, hold_at, grant_of, granted, without, CanTake, IsAllowed, after_entry, start, after_entries, AreAllowed, hold_of, numbers_of, replay_state_of, touches_of, IsReplayed}
use Rattle.cr_board.specs.Choices.{is_spent, job_at, grant_now, Stands}
use Rattle.cr_board.specs.Moves.{taken_at, put_back, handed_in, halves}
use Rattle.cr_board.specs.declared.held.Held.{Held}
use Rattle.cr_board.specs.declared.place.Place.{Place}
use Rattle.cr_board.specs.declared.entry.Entry.{Entry}
use Rattle.cr_board.specs.declared.entry.Entry.TheVariants.{Take, Hand, Back}
use Rattle.cr_board.proofs.Numbers.{times, numbers_are, removed_is_without}
use Rattle.cr_board.proofs.ReplayFacts.{ReplayKeeps, Within, entries_keep, start_keeps}
use Rattle.cr_board.proofs.Asking.{IsFree}

-- one entry more
allowed_more : (o : OpeningParts) (h : ReplayState) (entries : List Entry) (entry : Entry) → AreAllowed o h entries → IsAllowed o (after_entries h entries) entry → AreAllowed o h (entries ++ entry ∷ [])
allowed_more o h [] entry all one = (one, tt)
allowed_more o h (first ∷ entries) entry (here, later) one = (here, allowed_more o (after_entry h first) entries entry later one)

after_more : (h : ReplayState) (entries : List Entry) (entry : Entry) → after_entries h (entries ++ entry ∷ []) ≡ after_entry (after_entries h entries) entry
after_more h [] entry = refl
after_more h (first ∷ entries) entry = after_more (after_entry h first) entries entry

-- lanes by numbers
numbers_at_is : (lanes : List (List JobParts)) (lane : ℕ) → get_or (map numbers_of lanes) lane [] ≡ numbers_of (lane_at lanes lane)
numbers_at_is [] lane = refl
numbers_at_is (x ∷ lanes) zero = refl
numbers_at_is (x ∷ lanes) (suc lane) = numbers_at_is lanes lane

hold_at_is : (held : List (Option Held)) (worker : ℕ) → get_or (map hold_of held) worker None ≡ hold_of (held_at held worker)
hold_at_is [] worker = refl
hold_at_is (x ∷ held) zero = refl
hold_at_is (x ∷ held) (suc worker) = hold_at_is held worker

-- grants by holds
grants_are : (held : List (Option Held)) → sum_by grant_of (map hold_of held) ≡ sum_by held_grant held
grants_are [] = refl
grants_are (h ∷ held) = omega (arith, sum_by-cons grant_of (hold_of h) (map hold_of held), sum_by-cons held_grant h held, grants_are held, same h)
  where
    same : (h : Option Held) → grant_of (hold_of h) ≡ held_grant h
    same None = refl
    same (Some held) = refl

-- replay states that agree are one
same_replay_state : (lanes more : List (List ℕ)) (held other : List (Option Hold)) (next spent : ℕ) → lanes ≡ more → held ≡ other
    → ◌≡◌ {A = ReplayState} (record { lanes = lanes; held = held; next = next; spent = spent }) (record { lanes = more; held = other; next = next; spent = spent })
same_replay_state lanes more held other next spent a b = λ i. record { lanes = a i; held = b i; next = next; spent = spent }

module _ (b : BoardParts) (replayed : IsReplayed b) where
  pub state_keeps : 1 ≤ b.opening.workers → ReplayKeeps b.opening (replay_state_of b)
  state_keeps some = subst (ReplayKeeps b.opening) (sym replayed.replay_state) (entries_keep b.opening (start b.opening) b.journal (start_keeps b.opening some) replayed.allowed)

  -- turns that are spent or granted are within the budget
  pub promised_within : 1 ≤ b.opening.workers → Within b.opening.budget (promised b)
  promised_within some = subst (Within b.opening.budget) (ap (λ n. b.spent + n) (grants_are b.held)) (state_keeps some).within

  -- one entry more tells a board that has changed by it
  replayed_more : (entry : Entry) (lanes : List (List JobParts)) (held : List (Option Held)) (more : List (List ℕ)) (next spent : ℕ)
      → IsAllowed b.opening (replay_state_of b) entry
      → ◌≡◌ {A = ReplayState} (record { lanes = map numbers_of lanes; held = map hold_of held; next = next; spent = spent }) (after_entry (replay_state_of b) entry)
      → length more ≡ touches_of entry
      → (found : List (List ℕ)) → found ≡ b.found ++ more
      → IsReplayed (record b { lanes = lanes; held = held; found = found; next = next; spent = spent; journal = b.journal ++ entry ∷ [] })
  replayed_more entry lanes held more next spent allowed is touches found found_is = record {
    allowed = allowed_more b.opening (start b.opening) b.journal entry replayed.allowed (subst (λ h. IsAllowed b.opening h entry) replayed.replay_state allowed);
    replay_state = is ∙ ap (λ h. after_entry h entry) replayed.replay_state ∙ sym (after_more (start b.opening) b.journal entry);
    found =
        let (before, is_before, many) = replayed.found in (
          before ++ more,
          found_is ∙ ap (λ l. l ++ more) is_before ∙ append_assoc b.opening.found before more,
          omega (arith, length-append before more, many, touches, sum_by_push touches_of b.journal entry),
        );
  }

  module _ (worker : ℕ) (place : Place) (free : IsFree b worker) (stands : Stands b.lanes place) where
    abbrev number : ℕ
    number = (job_at b.lanes place).number

    abbrev taken : Held
    taken = record { job = job_at b.lanes place; grant = grant_now b }

    keeps : ReplayKeeps b.opening (replay_state_of b)
    keeps = state_keeps (omega (arith, free.worker))

    -- the number stands once in its lane
    once : times number (numbers_of (lane_at b.lanes place.lane)) ≤ 1
    once =
        let inside : place.lane < length (map numbers_of b.lanes) = omega (arith, stands.lane, length-map b.lanes numbers_of) in
        let part = sum_by-set (times number) (map numbers_of b.lanes) place.lane [] [] inside in
        let at : times number (get_or (map numbers_of b.lanes) place.lane []) ≡ times number (numbers_of (lane_at b.lanes place.lane)) = ap (times number) (numbers_at_is b.lanes place.lane) in
        omega (arith, keeps.once number, part, at)

    lanes_are : map numbers_of (set b.lanes place.lane (remove (lane_at b.lanes place.lane) place.place)) ≡ set (map numbers_of b.lanes) place.lane (without number (get_or (map numbers_of b.lanes) place.lane []))
    lanes_are = map-set numbers_of b.lanes place.lane (remove (lane_at b.lanes place.lane) place.place)
        ∙ ap (set (map numbers_of b.lanes) place.lane) (removed_is_without (lane_at b.lanes place.lane) place.place (record { number = 0; nodes = [] }) stands.place once
        ∙ ap (without number) (sym (numbers_at_is b.lanes place.lane)))

    -- what is granted is something
    some_granted : (budget : Option ℕ) → Within budget (promised b) → is_spent budget (promised b) ≡ false → 0 < granted budget (promised b)
    some_granted None within left = omega arith
    some_granted (Some budget) within left =
        let differ : budget ≢ promised b = eqb-false budget (promised b) left in
        omega (arith, within, differ)

    can : CanTake b.opening (replay_state_of b) worker place.lane number (grant_now b)
    can = record {
      worker = free.worker;
      idle = hold_at_is b.held worker ∙ ap hold_of free.idle;
      stands = subst (λ l. Contains l number) (sym (numbers_at_is b.lanes place.lane)) (
        place.place,
        omega (arith, length-map (lane_at b.lanes place.lane) (λ j. j.number), stands.place),
        get_or-map (λ j. j.number) (lane_at b.lanes place.lane) place.place (record { number = 0; nodes = [] }) number stands.place,
      );
      grant = ap (λ n. granted b.opening.budget (b.spent + n)) (sym (grants_are b.held));
      some = some_granted b.opening.budget (promised_within (omega (arith, free.worker))) free.left;
    }

    -- a take
    pub take_replayed : IsReplayed (taken_at b worker place)
    take_replayed = replayed_more (Take worker place.lane number (grant_now b))
        (set b.lanes place.lane (remove (lane_at b.lanes place.lane) place.place)) (set b.held worker (Some taken)) [] b.next b.spent can
        (same_replay_state _ _ _ _ b.next b.spent lanes_are (map-set hold_of b.held worker (Some taken)))
        refl b.found (sym (append-nil b.found))

  module _ (worker : ℕ) (mine : Held) (holds : held_at b.held worker ≡ Some mine) where
    one_more_hold : hold_at (replay_state_of b) worker ≡ Some (record { number = mine.job.number; grant = mine.grant })
    one_more_hold = hold_at_is b.held worker ∙ ap hold_of holds

    -- a Back
    pub back_replayed : IsReplayed (put_back b worker (Some mine))
    back_replayed = replayed_more (Back worker mine.job.number) (set b.lanes worker (lane_at b.lanes worker ++ mine.job ∷ [])) (set b.held worker None) [] b.next b.spent
        (mine.grant, one_more_hold, omega arith)
        (same_replay_state _ _ _ _ b.next b.spent
        (map-set numbers_of b.lanes worker (lane_at b.lanes worker ++ mine.job ∷ [])
        ∙ ap (set (map numbers_of b.lanes) worker) (map-append (λ j. j.number) (lane_at b.lanes worker) (mine.job ∷ []) ∙ ap (λ l. l ++ mine.job.number ∷ []) (sym (numbers_at_is b.lanes worker))))
        (map-set hold_of b.held worker None))
        refl b.found (sym (append-nil b.found))

    few_halves : (rest : List (List ℕ)) → length (halves rest) ≤ 2
    few_halves [] = omega arith
    few_halves (node ∷ []) = omega arith
    few_halves (node ∷ next ∷ rest) = omega arith

    -- a hand-in
    pub hand_replayed : (work : Work) → work.used ≤ mine.grant → IsReplayed (handed_in b worker mine.job.number work)
    hand_replayed work within = replayed_more (Hand worker mine.job.number work.used (length work.found) (length (halves work.rest)))
        (set b.lanes worker (lane_at b.lanes worker ++ numbered b.next (halves work.rest))) (set b.held worker None) work.found (b.next + length (halves work.rest)) (b.spent + work.used)
        ((mine.grant, one_more_hold, within), few_halves work.rest)
        (same_replay_state _ _ _ _ (b.next + length (halves work.rest)) (b.spent + work.used)
        (map-set numbers_of b.lanes worker (lane_at b.lanes worker ++ numbered b.next (halves work.rest))
        ∙ ap (set (map numbers_of b.lanes) worker) (map-append (λ j. j.number) (lane_at b.lanes worker) (numbered b.next (halves work.rest))
        ∙ ap₂ (λ l k. l ++ k) (sym (numbers_at_is b.lanes worker)) (numbers_are b.next (halves work.rest))))
        (map-set hold_of b.held worker None))
        refl (b.found ++ work.found) refl

-- the board that an opening gives
map_replicate : (n : ℕ) → map numbers_of (replicate n []) ≡ replicate n []
map_replicate zero = refl
map_replicate (suc n) = ap (λ l. [] ∷ l) (map_replicate n)

holds_replicate : (n : ℕ) → map hold_of (replicate n None) ≡ replicate n None
holds_replicate zero = refl
holds_replicate (suc n) = ap (λ l. None ∷ l) (holds_replicate n)

pub opened_replayed : (o : OpeningParts) → IsReplayed (opened o)
opened_replayed o = record {
  allowed = tt;
  replay_state = same_replay_state _ _ _ _ (length o.jobs) 0
      (map-set numbers_of (replicate o.workers []) 0 (numbered 0 o.jobs) ∙ ap₂ (λ l x. set l 0 x) (map_replicate o.workers) (numbers_are 0 o.jobs))
      (holds_replicate o.workers);
  found = ([], sym (append-nil o.found), refl);
}
