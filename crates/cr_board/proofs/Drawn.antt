-- No job number is drawn twice.
use Rattle.std.proofs.Common.{◌≡◌, ℕ, ◌<◌, ◌≤◌, List, [], ◌∷◌, ◌++◌, Some, inl, inr, refl, sym, ap, ◌∙◌, subst, arith}
use Rattle.std.proofs.lemmas.Bool.{cases_lt}
use Rattle.cr_board.specs.Jobs.{OpeningParts}
use Rattle.cr_board.specs.Boards.{BoardParts}
use Rattle.cr_board.specs.ReplayStates.{Hold, ReplayState, HoldsFor, IsAllowed, after_entry, start, after_entries, AreAllowed, replay, hold_times, times_in, replay_state_of}
use Rattle.cr_board.specs.Partitions.{IsKept}
use Rattle.cr_board.specs.Steps.{EventStep, Ran}
use Rattle.cr_board.specs.declared.event.Event.{Event}
use Rattle.cr_board.specs.declared.entry.Entry.{Entry}
use Rattle.cr_board.specs.declared.entry.Entry.TheVariants.{Take, Hand, Back}
use Rattle.cr_board.proofs.Numbers.{one_if, one_same, times_range}
use Rattle.cr_board.proofs.ReplayFacts.{ReplayKeeps, freed, take_times, back_times, hand_times, entry_keeps, entries_keep, start_keeps}
use Rattle.cr_board.proofs.Replaying.{state_keeps}
use Rattle.cr_board.proofs.Parting.{AmongOthers}
use Rattle.cr_board.proofs.Events.{opening_stays}
use Rattle.cr_board.proofs.Appending.{journal_appends}
use Rattle.cr_board.proofs.Keeping.{event_keeps}

-- no number below the next one stands more often later, and the next number does not fall
pub record GoesOn (h after : ReplayState) : Type 0 where
  pub old : (number : ℕ) → number < h.next → times_in after number ≤ times_in h number
  pub next : h.next ≤ after.next

goes_nowhere : (h : ReplayState) → GoesOn h h
goes_nowhere h = record { old = λ number below. omega arith; next = omega arith }

goes_further : (h middle after : ReplayState) → GoesOn h middle → GoesOn middle after → GoesOn h after
goes_further h middle after one two = record {
  old = λ number below. omega (arith, one.old number below, two.old number (omega (arith, below, one.next)));
  next = omega (arith, one.next, two.next);
}

module _ (o : OpeningParts) where
  -- an entry
  entry_goes : (h : ReplayState) → ReplayKeeps o h → (entry : Entry) → IsAllowed o h entry → GoesOn h (after_entry h entry)
  entry_goes h keeps (Take worker lane job grant) can = record {
    old = λ number below. omega (arith, take_times o h keeps worker lane job grant can number);
    next = omega arith;
  }
  entry_goes h keeps (Hand worker job used touches opened) (holds, few) = record {
    old = λ number below.
        let (most, low, high) = times_range number h.next opened in
        omega (arith, hand_times o h keeps worker job used touches opened holds number, low below);
    next = omega arith;
  }
  entry_goes h keeps (Back worker job) holds = record {
    old = λ number below. omega (arith, back_times o h keeps worker job 0 holds number);
    next = omega arith;
  }

  -- entries
  entries_go : (h : ReplayState) (entries : List Entry) → ReplayKeeps o h → AreAllowed o h entries → GoesOn h (after_entries h entries)
  entries_go h [] keeps allowed = goes_nowhere h
  entries_go h (entry ∷ entries) keeps (first, later) =
      let keeps_on = entry_keeps o h keeps entry first in
      goes_further h (after_entry h entry) (after_entries (after_entry h entry) entries) (entry_goes h keeps entry first) (entries_go (after_entry h entry) entries keeps_on later)

  -- what stands is below the next number
  pub stands_below : (h : ReplayState) → ReplayKeeps o h → (number : ℕ) → 1 ≤ times_in h number → number < h.next
  stands_below h keeps number stands = elim (cases_lt number h.next) [
    | inl below ↦ below
    | inr past ↦ absurd (omega (arith, stands, keeps.fresh number past))
  ]

  -- what is handed in is gone
  hand_takes : (h : ReplayState) → ReplayKeeps o h → (worker job used touches opened : ℕ) → HoldsFor h worker job used
      → (1 ≤ times_in h job) × (times_in (after_entry h (Hand worker job used touches opened)) job ≡ 0)
  hand_takes h keeps worker job used touches opened (grant, holds, enough) =
      let hold : Hold = record { number = job; grant = grant } in
      let one : hold_times job (Some hold) ≡ 1 = one_same job job refl in
      let held = freed o h keeps (hold_times job) worker hold refl holds in
      let stands : 1 ≤ times_in h job = omega (arith, one, held) in
      let (most, low, high) = times_range job h.next opened in
      let after = hand_times o h keeps worker job used touches opened (grant, holds, enough) job in
      let same : one_if job job ≡ 1 = one_same job job refl in
      (stands, omega (arith, after, same, low (stands_below h keeps job stands), keeps.once job))

-- entries one list after another
after_joined : (h : ReplayState) (entries more : List Entry) → after_entries h (entries ++ more) ≡ after_entries (after_entries h entries) more
after_joined h [] more = refl
after_joined h (entry ∷ entries) more = after_joined (after_entry h entry) entries more

allowed_parts : (o : OpeningParts) (h : ReplayState) (entries more : List Entry) → AreAllowed o h (entries ++ more)
    → AreAllowed o h entries × AreAllowed o (after_entries h entries) more
allowed_parts o h [] more allowed = (tt, allowed)
allowed_parts o h (entry ∷ entries) more (first, later) =
    let (front, back) = allowed_parts o (after_entry h entry) entries more later in
    ((first, front), back)

module _ (o : OpeningParts) (some : 1 ≤ o.workers) where
  replay_keeps : (journal : List Entry) → AreAllowed o (start o) journal → ReplayKeeps o (replay o journal)
  replay_keeps journal allowed = entries_keep o (start o) journal (start_keeps o some) allowed

  -- a journal that goes on
  replay_goes : (before more : List Entry) → AreAllowed o (start o) (before ++ more) → GoesOn (replay o before) (replay o (before ++ more))
  replay_goes before more allowed =
      let (front, back) = allowed_parts o (start o) before more allowed in
      subst (GoesOn (replay o before)) (sym (after_joined (start o) before more)) (entries_go o (replay o before) more (replay_keeps before front) back)

  pub stay_below : (before more : List Entry) (number : ℕ) → AreAllowed o (start o) (before ++ more) → 1 ≤ times_in (replay o before) number
      → number < (replay o (before ++ more)).next
  stay_below before more number allowed stands =
      let front = (allowed_parts o (start o) before more allowed).0 in
      omega (arith, stands_below o (replay o before) (replay_keeps before front) number stands, (replay_goes before more allowed).next)

  pub drawn_above : (before more : List Entry) (entry : Entry) (old number : ℕ) → AreAllowed o (start o) ((before ++ more) ++ entry ∷ [])
      → 1 ≤ times_in (replay o before) old → times_in (replay o (before ++ more)) number ≡ 0 → 1 ≤ times_in (replay o ((before ++ more) ++ entry ∷ [])) number
      → old < number
  drawn_above before more entry old number allowed stood none stands =
      let (front, back) = allowed_parts o (start o) (before ++ more) (entry ∷ []) allowed in
      let below = stay_below before more old front stood in
      elim (cases_lt number (replay o (before ++ more)).next) [
        | inl drawn ↦ absurd (omega (arith, none, stands, (replay_goes (before ++ more) (entry ∷ []) allowed).old number drawn))
        | inr fresh ↦ omega (arith, below, fresh)
      ]

  pub stays_gone : (before more later : List Entry) (number : ℕ) → AreAllowed o (start o) ((before ++ more) ++ later)
      → 1 ≤ times_in (replay o before) number → times_in (replay o (before ++ more)) number ≡ 0 → times_in (replay o ((before ++ more) ++ later)) number ≡ 0
  stays_gone before more later number allowed stood none =
      let front = (allowed_parts o (start o) (before ++ more) later allowed).0 in
      omega (arith, none, (replay_goes (before ++ more) later allowed).old number (stay_below before more number front stood))

  pub handed_gone : (before later : List Entry) (worker job used touches opened : ℕ) → AreAllowed o (start o) (before ++ Hand worker job used touches opened ∷ later)
      → times_in (replay o (before ++ Hand worker job used touches opened ∷ later)) job ≡ 0
  handed_gone before later worker job used touches opened allowed =
      let h = replay o before in
      let hand = Hand worker job used touches opened in
      let (front, (first, back)) = allowed_parts o (start o) before (hand ∷ later) allowed in
      let keeps = replay_keeps before front in
      let (stands, none) = hand_takes o h keeps worker job used touches opened first.0 in
      let below = stands_below o h keeps job stands in
      let goes = entries_go o (after_entry h hand) later (entry_keeps o h keeps hand first) back in
      let same : times_in (replay o (before ++ hand ∷ later)) job ≡ times_in (after_entries (after_entry h hand) later) job = ap (λ k. times_in k job) (after_joined (start o) before (hand ∷ later)) in
      omega (arith, same, none, goes.old job (omega (arith, below)))

-- events on a board
event_goes : (b after : BoardParts) (event : Event) → IsKept b → IsKept after → EventStep b event after → GoesOn (replay_state_of b) (replay_state_of after)
event_goes b after event kept later step =
    let o = b.opening in
    let (more, is) = journal_appends b after event step in
    let same = opening_stays b after event step in
    let allowed : AreAllowed o (start o) (b.journal ++ more) =
    subst (λ j. AreAllowed o (start o) j) is (subst (λ q. AreAllowed q (start q) after.journal) same later.replayed.allowed) in
    let replay_state : replay_state_of after ≡ replay o (b.journal ++ more) = later.replayed.replay_state ∙ ap (λ q. replay q after.journal) same ∙ ap (replay o) is in
    subst (λ h. GoesOn h (replay_state_of after)) (sym kept.replayed.replay_state)
    (subst (GoesOn (replay o b.journal)) (sym replay_state) (replay_goes o kept.opening.some b.journal more allowed))

pub events_go : AmongOthers → (b after : BoardParts) (events : List Event) → IsKept b → Ran b events after → GoesOn (replay_state_of b) (replay_state_of after)
events_go among b after [] kept ran = subst (λ a. GoesOn (replay_state_of b) (replay_state_of a)) (sym ran) (goes_nowhere (replay_state_of b))
events_go among b after (event ∷ events) kept (middle, step, ran) =
    let there = event_keeps among b middle event kept step in
    goes_further (replay_state_of b) (replay_state_of middle) (replay_state_of after) (event_goes b middle event kept there step) (events_go among middle after events there ran)

-- what stands on a board is below its next number
pub board_below : (b : BoardParts) → IsKept b → (number : ℕ) → 1 ≤ times_in (replay_state_of b) number → number < b.next
board_below b kept number stands = stands_below b.opening (replay_state_of b) (state_keeps b kept.replayed kept.opening.some) number stands

pub board_once : (b : BoardParts) → IsKept b → (number : ℕ) → times_in (replay_state_of b) number ≤ 1
board_once b kept number = (state_keeps b kept.replayed kept.opening.some).once number

-- and what its journal hands in is gone
pub board_gone : (b : BoardParts) → IsKept b → (before later : List Entry) (worker job used touches opened : ℕ)
    → b.journal ≡ before ++ Hand worker job used touches opened ∷ later → times_in (replay_state_of b) job ≡ 0
board_gone b kept before later worker job used touches opened is =
    let o = b.opening in
    let journal = before ++ Hand worker job used touches opened ∷ later in
    let allowed : AreAllowed o (start o) journal = subst (λ j. AreAllowed o (start o) j) is kept.replayed.allowed in
    let replay_state : replay_state_of b ≡ replay o journal = kept.replayed.replay_state ∙ ap (replay o) is in
    subst (λ h. times_in h job ≡ 0) (sym replay_state) (handed_gone o kept.opening.some before later worker job used touches opened allowed)
