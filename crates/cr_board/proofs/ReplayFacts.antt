-- What every replay keeps: no number stands twice, and no more is granted than the budget.
use Rattle.std.proofs.Common.{◌≡◌, ℕ, ◌+◌, ◌*◌, ◌<◌, ◌≤◌, List, [], ◌∷◌, ◌++◌, length, get_or, set, replicate, sum_by, Contains, Option, Some, None, IfSome, inl, inr, refl, sym, ap, ◌∙◌, subst, arith}
use Rattle.std.specs.List.{range_with_len}
use Rattle.std.proofs.lemmas.Bool.{cases_lt}
use Rattle.std.proofs.lemmas.Option.{none-some}
use Rattle.std.proofs.lemmas.List.{length-set, length-replicate, get_or-replicate, get_or_past}
use Rattle.std.proofs.lemmas.List.Sums.{sum_by-set}
use Rattle.std.proofs.lemmas.List.Folds.{sum_by-replicate}
use Rattle.cr_board.specs.Jobs.{OpeningParts}
use Rattle.cr_board.specs.ReplayStates.{Hold, ReplayState, numbers_at, hold_at, grant_of, granted, without, CanTake, HoldsFor, IsAllowed, after_entry, start, after_entries, AreAllowed, hold_times, times_in}
use Rattle.cr_board.specs.declared.entry.Entry.{Entry}
use Rattle.cr_board.specs.declared.entry.Entry.TheVariants.{Take, Hand, Back}
use Rattle.cr_board.proofs.Numbers.{times, one_if, times_joined, times_more, times_without, times_range}

-- no more than the budget, if there is one
abbrev pub Within : Option ℕ → ℕ → Type 0
Within None used = Unit {0}
Within (Some budget) used = used ≤ budget

pub record ReplayKeeps (o : OpeningParts) (h : ReplayState) : Type 0 where
  pub lanes : length h.lanes ≡ o.workers
  pub held : length h.held ≡ o.workers
  pub once : (number : ℕ) → times_in h number ≤ 1
  pub fresh : (number : ℕ) → h.next ≤ number → times_in h number ≡ 0
  pub within : Within o.budget (h.spent + sum_by grant_of h.held)

-- less is within too
less_within : (budget : Option ℕ) (used less : ℕ) → Within budget used → less ≤ used → Within budget less
less_within None used less h below = tt
less_within (Some budget) used less h below = omega (arith, h, below)

-- and with what may be granted
grant_within : (budget : Option ℕ) (used all : ℕ) → Within budget used → all ≡ used + granted budget used → Within budget all
grant_within None used all h is = tt
grant_within (Some budget) used all h is = omega (arith, h, is)

-- after a lane was put together with some numbers
lane_times : (number : ℕ) (lanes : List (List ℕ)) (lane : ℕ) (more : List ℕ) → lane < length lanes
    → sum_by (times number) (set lanes lane (get_or lanes lane [] ++ more)) ≡ sum_by (times number) lanes + times number more
lane_times number lanes lane more inside =
    omega (arith, sum_by-set (times number) lanes lane (get_or lanes lane [] ++ more) [] inside, times_joined number (get_or lanes lane []) more)

module _ (o : OpeningParts) (h : ReplayState) (keeps : ReplayKeeps o h) where
  -- who holds something is one of the workers
  pub hold_inside : (worker : ℕ) (hold : Hold) → hold_at h worker ≡ Some hold → worker < o.workers
  hold_inside worker hold holds = elim (cases_lt worker (length h.held)) [
    | inl inside ↦ omega (arith, inside, keeps.held)
    | inr past ↦ absurd (none-some hold (sym (get_or_past h.held worker None past) ∙ holds))
  ]

  -- a lane with a job is one of the lanes
  pub lane_inside : (lane job : ℕ) → Contains (numbers_at h lane) job → lane < length h.lanes
  lane_inside lane job held = elim (cases_lt lane (length h.lanes)) [
    | inl inside ↦ inside
    | inr past ↦ let none : length (numbers_at h lane) ≡ 0 = ap length (get_or_past h.lanes lane [] past) in absurd (omega (arith, held.1, none))
  ]

  -- sums over what is held, after it was let go
  pub freed : (f : Option Hold → ℕ) (worker : ℕ) (hold : Hold) → f None ≡ 0 → hold_at h worker ≡ Some hold
      → sum_by f (set h.held worker None) + f (Some hold) ≡ sum_by f h.held
  freed f worker hold none holds =
      let inside : worker < length h.held = omega (arith, hold_inside worker hold holds, keeps.held) in
      let before : f (hold_at h worker) ≡ f (Some hold) = ap f holds in
      omega (arith, sum_by-set f h.held worker None None inside, before, none)

  -- and after an idle worker took one
  one_more_hold : (f : Option Hold → ℕ) (worker : ℕ) (hold : Hold) → f None ≡ 0 → worker < o.workers → hold_at h worker ≡ None
      → sum_by f (set h.held worker (Some hold)) ≡ sum_by f h.held + f (Some hold)
  one_more_hold f worker hold none within idle =
      let inside : worker < length h.held = omega (arith, within, keeps.held) in
      let before : f (hold_at h worker) ≡ f None = ap f idle in
      omega (arith, sum_by-set f h.held worker (Some hold) None inside, before, none)

  pub take_times : (worker lane job grant : ℕ) → CanTake o h worker lane job grant → (number : ℕ) → times_in (after_entry h (Take worker lane job grant)) number ≡ times_in h number
  take_times worker lane job grant can number =
      let inside = lane_inside lane job can.stands in
      let lanes = sum_by-set (times number) h.lanes lane (without job (numbers_at h lane)) [] inside in
      let left = times_without number job (numbers_at h lane) can.stands in
      let held = one_more_hold (hold_times number) worker (record { number = job; grant = grant }) refl can.worker can.idle in
      omega (arith, lanes, left, held)

  pub back_times : (worker job turns : ℕ) → HoldsFor h worker job turns → (number : ℕ) → times_in (after_entry h (Back worker job)) number ≡ times_in h number
  back_times worker job turns (grant, holds, enough) number =
      let inside : worker < length h.lanes = omega (arith, hold_inside worker (record { number = job; grant = grant }) holds, keeps.lanes) in
      let lanes = lane_times number h.lanes worker (job ∷ []) inside in
      let one = times_more number job [] in
      let held = freed (hold_times number) worker (record { number = job; grant = grant }) refl holds in
      omega (arith, lanes, one, held)

  pub hand_times : (worker job used touches opened : ℕ) → HoldsFor h worker job used → (number : ℕ)
      → times_in (after_entry h (Hand worker job used touches opened)) number + one_if job number ≡ times_in h number + times number (range_with_len h.next opened)
  hand_times worker job used touches opened (grant, holds, enough) number =
      let inside : worker < length h.lanes = omega (arith, hold_inside worker (record { number = job; grant = grant }) holds, keeps.lanes) in
      let lanes = lane_times number h.lanes worker (range_with_len h.next opened) inside in
      let held = freed (hold_times number) worker (record { number = job; grant = grant }) refl holds in
      omega (arith, lanes, held)

  -- an entry that is allowed keeps the facts
  pub entry_keeps : (entry : Entry) → IsAllowed o h entry → ReplayKeeps o (after_entry h entry)
  entry_keeps (Take worker lane job grant) can = record {
    lanes = length-set h.lanes lane (without job (numbers_at h lane)) ∙ keeps.lanes;
    held = length-set h.held worker (Some (record { number = job; grant = grant })) ∙ keeps.held;
    once = λ number. omega (arith, take_times worker lane job grant can number, keeps.once number);
    fresh = λ number later. omega (arith, take_times worker lane job grant can number, keeps.fresh number later);
    within = grant_within o.budget (h.spent + sum_by grant_of h.held) (h.spent + sum_by grant_of (set h.held worker (Some (record { number = job; grant = grant })))) keeps.within
        (omega (arith, one_more_hold grant_of worker (record { number = job; grant = grant }) refl can.worker can.idle, can.grant));
  }
  entry_keeps (Hand worker job used touches opened) ((grant, holds, enough), few) = record {
    lanes = length-set h.lanes worker (numbers_at h worker ++ range_with_len h.next opened) ∙ keeps.lanes;
    held = length-set h.held worker None ∙ keeps.held;
    once = λ number. once number;
    fresh = λ number later.
        let (most, low, high) = times_range number h.next opened in
        omega (arith, hand_times worker job used touches opened (grant, holds, enough) number, keeps.fresh number (omega arith), high later);
    within = less_within o.budget (h.spent + sum_by grant_of h.held) (h.spent + used + sum_by grant_of (set h.held worker None)) keeps.within
        (omega (arith, freed grant_of worker (record { number = job; grant = grant }) refl holds, enough));
  }
    where
      once : (number : ℕ) → times_in (after_entry h (Hand worker job used touches opened)) number ≤ 1
      once number =
          let (most, low, high) = times_range number h.next opened in
          elim (cases_lt number h.next) [
            | inl before ↦ omega (arith, hand_times worker job used touches opened (grant, holds, enough) number, keeps.once number, low before)
            | inr later ↦ omega (arith, hand_times worker job used touches opened (grant, holds, enough) number, keeps.fresh number later, most)
          ]
  entry_keeps (Back worker job) (grant, holds, enough) = record {
    lanes = length-set h.lanes worker (numbers_at h worker ++ job ∷ []) ∙ keeps.lanes;
    held = length-set h.held worker None ∙ keeps.held;
    once = λ number. omega (arith, back_times worker job 0 (grant, holds, enough) number, keeps.once number);
    fresh = λ number later. omega (arith, back_times worker job 0 (grant, holds, enough) number, keeps.fresh number later);
    within = less_within o.budget (h.spent + sum_by grant_of h.held) (h.spent + sum_by grant_of (set h.held worker None)) keeps.within
        (omega (arith, freed grant_of worker (record { number = job; grant = grant }) refl holds));
  }

-- and so do all entries of a journal
pub entries_keep : (o : OpeningParts) (h : ReplayState) (entries : List Entry) → ReplayKeeps o h → AreAllowed o h entries → ReplayKeeps o (after_entries h entries)
entries_keep o h [] keeps allowed = keeps
entries_keep o h (entry ∷ entries) keeps (first, later) = entries_keep o (after_entry h entry) entries (entry_keeps o h keeps entry first) later

-- the first replay state has the facts
pub start_keeps : (o : OpeningParts) → 1 ≤ o.workers → ReplayKeeps o (start o)
start_keeps o some = record {
  lanes = length-set (replicate o.workers []) 0 (range_with_len 0 (length o.jobs)) ∙ length-replicate o.workers [];
  held = length-replicate o.workers None;
  once = λ number. let (most, low, high) = times_range number 0 (length o.jobs) in omega (arith, at_start number, most);
  fresh = λ number later. let (most, low, high) = times_range number 0 (length o.jobs) in omega (arith, at_start number, high (omega arith));
  within = less o.budget;
}
  where
    nothing : (f : Option Hold → ℕ) → f None ≡ 0 → sum_by f (replicate o.workers None) ≡ 0
    nothing f none = sum_by-replicate f o.workers None ∙ ap (λ n. o.workers * n) none ∙ omega arith

    at_start : (number : ℕ) → times_in (start o) number ≡ times number (range_with_len 0 (length o.jobs))
    at_start number =
        let lanes = sum_by-set (times number) (replicate o.workers []) 0 (range_with_len 0 (length o.jobs)) [] (omega (arith, some, length-replicate {A = List ℕ} o.workers [])) in
        let before : sum_by (times number) (replicate o.workers []) ≡ 0 = sum_by-replicate (times number) o.workers [] ∙ omega arith in
        let first : times number (get_or (replicate o.workers []) 0 []) ≡ 0 = ap (times number) (get_or-replicate o.workers 0 [] [] some) in
        omega (arith, lanes, before, first, nothing (hold_times number) refl)

    less : (budget : Option ℕ) → Within budget (0 + sum_by grant_of (replicate o.workers None))
    less None = tt
    less (Some budget) = omega (arith, nothing grant_of refl)

-- of what a journal replays to
pub number_once : (o : OpeningParts) (journal : List Entry) → 1 ≤ o.workers → AreAllowed o (start o) journal → (number : ℕ) → times_in (after_entries (start o) journal) number ≤ 1
number_once o journal some allowed = (entries_keep o (start o) journal (start_keeps o some) allowed).once

pub budget_kept : (o : OpeningParts) (journal : List Entry) (budget : ℕ) → 1 ≤ o.workers → AreAllowed o (start o) journal
    → o.budget ≡ Some budget → (after_entries (start o) journal).spent + sum_by grant_of (after_entries (start o) journal).held ≤ budget
budget_kept o journal budget some allowed is =
    subst (λ b. Within b ((after_entries (start o) journal).spent + sum_by grant_of (after_entries (start o) journal).held)) is
    (entries_keep o (start o) journal (start_keeps o some) allowed).within

pub within_some : (budget : Option ℕ) (used : ℕ) → Within budget used → IfSome budget (λ most. used ≤ most)
within_some None used within = tt
within_some (Some most) used within = within
