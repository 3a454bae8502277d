-- What a recall leaves, lane by lane.
use Rattle.std.proofs.Common.{◌≡◌, ◌≢◌, ℕ, zero, suc, ◌+◌, ◌<◌, ◌≤◌, List, [], ◌∷◌, ◌++◌, length, take, Option, Some, None, inl, inr, refl, sym, ap, ap₂, ◌∙◌, arith, append-nil}
use Rattle.std.proofs.lemmas.Bool.{cases_lt, cases_eq}
use Rattle.std.proofs.lemmas.List.{get_or-set_same, get_or-set_other, length-set, take_more, append_assoc, get_or_past, length-take-le, take_all}
use Rattle.cr_board.specs.Boards.{BoardParts, lane_at, held_at, held_jobs}
use Rattle.cr_board.specs.ReplayStates.{backs}
use Rattle.cr_board.specs.Moves.{put_back, given_back, back_below, after_recall}
use Rattle.cr_board.specs.declared.held.Held.{Held}
use Rattle.cr_board.specs.declared.entry.Entry.{Entry}
use Rattle.cr_board.specs.declared.entry.Entry.TheVariants.{Back}

-- the entry of what one worker holds
abbrev back_of : ℕ → Option Held → List Entry
back_of worker held = backs worker (held ∷ [])

-- one worker more
backs_more : (from : ℕ) (held : List (Option Held)) (next : Option Held) → backs from (held ++ next ∷ []) ≡ backs from held ++ back_of (from + length held) next
backs_more from [] next = let e : from ≡ from + 0 = omega arith in ap (λ n. back_of n next) e
backs_more from (None ∷ held) next =
    let e : from + 1 + length held ≡ from + suc (length held) = omega arith in
    backs_more (from + 1) held next ∙ ap (λ n. backs (from + 1) held ++ back_of n next) e
backs_more from (Some mine ∷ held) next =
    let e : from + 1 + length held ≡ from + suc (length held) = omega arith in
    ap (λ l. Back from mine.job.number ∷ l) (backs_more (from + 1) held next ∙ ap (λ n. backs (from + 1) held ++ back_of n next) e)

-- what one worker's giving back leaves
module _ (b : BoardParts) (worker : ℕ) (inside : worker < length b.held) (within : worker < length b.lanes) where
  gives_journal : (given_back b worker).journal ≡ b.journal ++ back_of worker (held_at b.held worker)
  gives_journal = by (held_at b.held worker)
    where
      by : (h : Option Held) → (put_back b worker h).journal ≡ b.journal ++ back_of worker h
      by None = sym (append-nil b.journal)
      by (Some mine) = refl

  gives_own : lane_at (given_back b worker).lanes worker ≡ lane_at b.lanes worker ++ held_jobs (held_at b.held worker)
  gives_own = by (held_at b.held worker)
    where
      by : (h : Option Held) → lane_at (put_back b worker h).lanes worker ≡ lane_at b.lanes worker ++ held_jobs h
      by None = sym (append-nil (lane_at b.lanes worker))
      by (Some mine) = get_or-set_same b.lanes worker (lane_at b.lanes worker ++ mine.job ∷ []) [] within

  gives_other : (other : ℕ) → other ≢ worker → (lane_at (given_back b worker).lanes other ≡ lane_at b.lanes other) × (held_at (given_back b worker).held other ≡ held_at b.held other)
  gives_other other differ = by (held_at b.held worker)
    where
      by : (h : Option Held) → (lane_at (put_back b worker h).lanes other ≡ lane_at b.lanes other) × (held_at (put_back b worker h).held other ≡ held_at b.held other)
      by None = (refl, refl)
      by (Some mine) = (get_or-set_other b.lanes worker other (lane_at b.lanes worker ++ mine.job ∷ []) [] differ, get_or-set_other b.held worker other None None differ)

  gives_nothing_left : held_at (given_back b worker).held worker ≡ None
  gives_nothing_left = by (held_at b.held worker) refl
    where
      by : (h : Option Held) → held_at b.held worker ≡ h → held_at (put_back b worker h).held worker ≡ None
      by None e = e
      by (Some mine) e = get_or-set_same b.held worker None None inside

  gives_lengths : (length (given_back b worker).held ≡ length b.held) × (length (given_back b worker).lanes ≡ length b.lanes)
  gives_lengths = by (held_at b.held worker)
    where
      by : (h : Option Held) → (length (put_back b worker h).held ≡ length b.held) × (length (put_back b worker h).lanes ≡ length b.lanes)
      by None = (refl, refl)
      by (Some mine) = (length-set b.held worker None, length-set b.lanes worker (lane_at b.lanes worker ++ mine.job ∷ []))

-- after the workers below a number gave back
record IsBackBelow (b : BoardParts) (count : ℕ) (after : BoardParts) : Type 0 where
  journal : after.journal ≡ b.journal ++ backs 0 (take count b.held)
  gave : (worker : ℕ) → worker < count → (held_at after.held worker ≡ None) × (lane_at after.lanes worker ≡ lane_at b.lanes worker ++ held_jobs (held_at b.held worker))
  others : (worker : ℕ) → count ≤ worker → (held_at after.held worker ≡ held_at b.held worker) × (lane_at after.lanes worker ≡ lane_at b.lanes worker)
  lengths : (length after.held ≡ length b.held) × (length after.lanes ≡ length b.lanes)

module _ (b : BoardParts) (shape : length b.lanes ≡ length b.held) (worker : ℕ) (few : suc worker ≤ length b.held) (before : IsBackBelow b worker (back_below b worker)) where
  abbrev m : BoardParts
  m = back_below b worker

  inside : worker < length (back_below b worker).held
  inside = omega (arith, before.lengths)

  within : worker < length (back_below b worker).lanes
  within = omega (arith, before.lengths)

  more : backs 0 (take worker b.held) ++ back_of worker (held_at b.held worker) ≡ backs 0 (take (suc worker) b.held)
  more =
      let count : 0 + length (take worker b.held) ≡ worker = omega (arith, length-take-le worker b.held (omega arith)) in
      let next : worker + 1 ≡ suc worker = omega arith in
      ap (λ n. backs 0 (take worker b.held) ++ back_of n (held_at b.held worker)) (sym count)
      ∙ sym (backs_more 0 (take worker b.held) (held_at b.held worker))
      ∙ ap (backs 0) (sym (take_more b.held worker None (omega arith)) ∙ ap (λ n. take n b.held) next)

  gave : (other : ℕ) → other < suc worker → (held_at (given_back m worker).held other ≡ None) × (lane_at (given_back m worker).lanes other ≡ lane_at b.lanes other ++ held_jobs (held_at b.held other))
  gave other below = elim (cases_eq other worker) [
    | inl e ↦ (
      ap (λ k. held_at (given_back m worker).held k) e ∙ gives_nothing_left m worker inside within,
      ap (λ k. lane_at (given_back m worker).lanes k) e ∙ gives_own m worker inside within
          ∙ ap₂ (λ l h. l ++ held_jobs h) (before.others worker (omega arith)).1 (before.others worker (omega arith)).0
          ∙ ap (λ k. lane_at b.lanes k ++ held_jobs (held_at b.held k)) (sym e),
    )
    | inr differ ↦
        let same = gives_other m worker inside within other differ in
        let old = before.gave other (omega arith) in
        (same.1 ∙ old.0, same.0 ∙ old.1)
  ]

  one_below : IsBackBelow b (suc worker) (given_back (back_below b worker) worker)
  one_below = record {
    journal = gives_journal m worker inside within
        ∙ ap₂ (λ l h. l ++ back_of worker h) before.journal (before.others worker (omega arith)).0
        ∙ append_assoc b.journal (backs 0 (take worker b.held)) (back_of worker (held_at b.held worker))
        ∙ ap (λ l. b.journal ++ l) more;
    gave = gave;
    others = λ other above.
        let differ : other ≢ worker = λ e. absurd (omega arith) in
        let same = gives_other m worker inside within other differ in
        let old = before.others other (omega arith) in
        (same.1 ∙ old.0, same.0 ∙ old.1);
    lengths =
        let now = gives_lengths m worker inside within in
        (now.0 ∙ before.lengths.0, now.1 ∙ before.lengths.1);
  }

below_is : (b : BoardParts) → length b.lanes ≡ length b.held → (count : ℕ) → count ≤ length b.held → IsBackBelow b count (back_below b count)
below_is b shape zero few = record {
  journal = sym (append-nil b.journal);
  gave = λ worker below. absurd (omega arith);
  others = λ worker above. (refl, refl);
  lengths = (refl, refl);
}
below_is b shape (suc worker) few = one_below b shape worker few (below_is b shape worker (omega arith))

module _ (b : BoardParts) (lanes : length b.lanes ≡ b.opening.workers) (held : length b.held ≡ b.opening.workers) where
  all_back : IsBackBelow b b.opening.workers (back_below b b.opening.workers)
  all_back = below_is b (lanes ∙ sym held) b.opening.workers (omega arith)

  pub recalled_journal : (after_recall b).journal ≡ b.journal ++ backs 0 b.held
  recalled_journal = all_back.journal ∙ ap (λ l. b.journal ++ backs 0 l) (take_all b.opening.workers b.held (omega arith))

  pub recalled_held : (worker : ℕ) → held_at (after_recall b).held worker ≡ None
  recalled_held worker = elim (cases_lt worker b.opening.workers) [
    | inl inside ↦ (all_back.gave worker inside).0
    | inr past ↦ get_or_past (after_recall b).held worker None (omega (arith, all_back.lengths))
  ]

  pub recalled_lanes : (worker : ℕ) → lane_at (after_recall b).lanes worker ≡ lane_at b.lanes worker ++ held_jobs (held_at b.held worker)
  recalled_lanes worker = elim (cases_lt worker b.opening.workers) [
    | inl inside ↦ (all_back.gave worker inside).1
    | inr past ↦
        (all_back.others worker past).1 ∙ sym (append-nil (lane_at b.lanes worker))
        ∙ ap (λ h. lane_at b.lanes worker ++ held_jobs h) (sym (get_or_past b.held worker None (omega arith)))
  ]
