-- How many entries the journal gets, and what answers tell of the end.
use Rattle.std.proofs.Common.{◌≡◌, ℕ, suc, ◌+◌, ◌-◌, ◌<◌, Bool, false, List, [], ◌∷◌, ◌++◌, length, flat_map, Option, Some, None, option_map, inl, inr, refl, sym, ap, ◌∙◌, arith, length-append}
use Rattle.std.specs.Prelude.{find}
use Rattle.std.specs.Option.{option_or}
use Rattle.std.specs.List.{range_with_len}
use Rattle.std.proofs.lemmas.Bool.{cases_lt}
use Rattle.std.proofs.lemmas.Option.{none-some}
use Rattle.std.proofs.lemmas.List.Concat.{flat_map-cons}
use Rattle.std.proofs.lemmas.List.Folds.{find-append}
use Rattle.cr_node.specs.Work.{Work}
use Rattle.cr_board.specs.Boards.{BoardParts, held_at, held_jobs, jobs_of}
use Rattle.cr_board.specs.ReplayStates.{backs}
use Rattle.cr_board.specs.Partitions.{HasShape}
use Rattle.cr_board.specs.Choices.{refusal_of, is_busy, is_holding, first_from, round, end_of, next_place, claim_place, waits_for, answer_by, next_answer, claimed_by, claim_answer, entries_taken, entries_claimed}
use Rattle.cr_board.specs.Moves.{after_ask, after_next, after_claim, handed_in, put_back, after_resigning, after_recall}
use Rattle.cr_board.specs.declared.held.Held.{Held}
use Rattle.cr_board.specs.declared.place.Place.{Place}
use Rattle.cr_board.specs.declared.refusal.Refusal.{Refusal}
use Rattle.cr_board.specs.declared.refusal.Refusal.TheVariants as refusal
use Rattle.cr_board.specs.declared.taken.Taken.TheVariants as taken
use Rattle.cr_board.specs.declared.entry.Entry.{Entry}
use Rattle.cr_board.proofs.Finding.{none_is, none_found}
use Rattle.cr_board.proofs.Asking.{free_from}
use Rattle.cr_board.proofs.Ending.{none_left}
use Rattle.cr_board.proofs.Recalled.{recalled_journal}

-- one entry for a job, and none for another answer
module _ (b : BoardParts) (worker : ℕ) where
  one_more : (entries : List Entry) (entry : Entry) → length (entries ++ entry ∷ []) ≡ length entries + 1
  one_more entries entry = length-append entries (entry ∷ [])

  waits_none : (least : Option ℕ) → entries_taken (waits_for least) ≡ 0
  waits_none None = refl
  waits_none (Some other) = refl

  pub next_entries : length (after_next b worker).journal ≡ length b.journal + entries_taken (next_answer b worker)
  next_entries = by (refusal_of b worker) (next_place b worker)
    where
      by : (r : Option Refusal) (place : Option Place) → length (after_ask b worker r place).journal ≡ length b.journal + entries_taken (answer_by b r place)
      by (Some refusal.Stranger) place = omega arith
      by (Some (refusal.Holding number)) place = omega arith
      by (Some refusal.Spent) place = omega arith
      by None (Some place) = one_more b.journal _
      by None None = omega (arith, waits_none (first_from (is_holding b.held) 0 b.opening.workers))

  pub claim_entries : (number : ℕ) → length (after_claim b worker number).journal ≡ length b.journal + entries_claimed (claim_answer b worker number)
  claim_entries number = by (refusal_of b worker) (claim_place b number)
    where
      by : (r : Option Refusal) (place : Option Place) → length (after_ask b worker r place).journal ≡ length b.journal + entries_claimed (claimed_by b r place)
      by (Some refusal.Stranger) place = omega arith
      by (Some (refusal.Holding n)) place = omega arith
      by (Some refusal.Spent) place = omega arith
      by None (Some place) = one_more b.journal _
      by None None = omega arith

  pub hand_entries : (number : ℕ) (work : Work) → length (handed_in b worker number work).journal ≡ length b.journal + 1
  hand_entries number work = one_more b.journal _

  pub resign_entries : length (after_resigning b worker).journal ≡ length b.journal + length (held_jobs (held_at b.held worker))
  resign_entries = by (held_at b.held worker)
    where
      by : (h : Option Held) → length (put_back b worker h).journal ≡ length b.journal + length (held_jobs h)
      by None = omega arith
      by (Some mine) = one_more b.journal _

-- a recall has one for each held job
backs_length : (from : ℕ) (held : List (Option Held)) → length (backs from held) ≡ length (flat_map held_jobs held)
backs_length from [] = refl
backs_length from (None ∷ held) = backs_length (from + 1) held ∙ ap length (sym (flat_map-cons held_jobs None held))
backs_length from (Some mine ∷ held) =
    ap suc (backs_length (from + 1) held) ∙ ap length (sym (flat_map-cons held_jobs (Some mine) held))

pub recall_entries : (b : BoardParts) → HasShape b → length (after_recall b).journal ≡ length b.journal + length (flat_map held_jobs b.held)
recall_entries b shape =
    ap length (recalled_journal b shape.lanes shape.held) ∙ length-append b.journal (backs 0 b.held) ∙ ap (λ n. length b.journal + n) (backs_length 0 b.held)

-- nothing on the way round, so nothing at all
none_round : (test : ℕ → Bool) (worker workers : ℕ) → worker < workers → find test (round worker workers) ≡ None → first_from test 0 workers ≡ None
none_round test worker workers inside none = none_is test 0 (workers - 0) (λ k below. fails (0 + k) (omega arith))
  where
    upper : (first : Option ℕ) → find test (range_with_len worker (workers - worker)) ≡ first → (find test (range_with_len worker (workers - worker)) ≡ None) × (find test (range_with_len 0 worker) ≡ None)
    upper None e = (e, sym (ap (λ o. option_or o (find test (range_with_len 0 worker))) e) ∙ sym (find-append test (range_with_len worker (workers - worker)) (range_with_len 0 worker)) ∙ none)
    upper (Some x) e = absurd (none-some x (sym (sym (ap (λ o. option_or o (find test (range_with_len 0 worker))) e) ∙ sym (find-append test (range_with_len worker (workers - worker)) (range_with_len 0 worker)) ∙ none)))

    both : (find test (range_with_len worker (workers - worker)) ≡ None) × (find test (range_with_len 0 worker) ≡ None)
    both = upper (find test (range_with_len worker (workers - worker))) refl

    fails : (k : ℕ) → k < workers → test k ≡ false
    fails k below = elim (cases_lt k worker) [
      | inl low ↦ let at : k ≡ 0 + k = omega arith in ap test at ∙ none_found test 0 worker both.1 k low
      | inr high ↦ let at : k ≡ worker + (k - worker) = omega arith in ap test at ∙ none_found test worker (workers - worker) both.0 (k - worker) (omega arith)
    ]

module _ (b : BoardParts) (shape : HasShape b) (worker : ℕ) where
  -- Empty tells that no job is left
  pub empty_ends : next_answer b worker ≡ taken.Empty → jobs_of b ≡ []
  empty_ends empty = by (refusal_of b worker) refl (next_place b worker) refl empty
    where
      idle : next_place b worker ≡ None → find (is_busy b.lanes) (round worker b.opening.workers) ≡ None
      idle none = cases (find (is_busy b.lanes) (round worker b.opening.workers)) refl
        where
          cases : (lane : Option ℕ) → find (is_busy b.lanes) (round worker b.opening.workers) ≡ lane → find (is_busy b.lanes) (round worker b.opening.workers) ≡ None
          cases None e = e
          cases (Some lane) e = absurd (none-some (end_of b worker lane) (sym (sym (ap (option_map (end_of b worker)) e) ∙ none)))

      free : (least : Option ℕ) → first_from (is_holding b.held) 0 b.opening.workers ≡ least → waits_for least ≡ taken.Empty → first_from (is_holding b.held) 0 b.opening.workers ≡ None
      free None e h = e
      free (Some other) e h = cc

      by : (r : Option Refusal) → refusal_of b worker ≡ r → (place : Option Place) → next_place b worker ≡ place → answer_by b r place ≡ taken.Empty → jobs_of b ≡ []
      by (Some refusal.Stranger) e place f h = cc
      by (Some (refusal.Holding number)) e place f h = cc
      by (Some refusal.Spent) e place f h = cc
      by None e (Some place) f h = cc
      by None e None f h =
          let inside = (free_from b worker e).worker in
          none_left b.lanes b.held
          (ap (first_from (is_busy b.lanes) 0) shape.lanes ∙ none_round (is_busy b.lanes) worker b.opening.workers inside (idle f))
          (ap (first_from (is_holding b.held) 0) shape.held ∙ free (first_from (is_holding b.held) 0 b.opening.workers) refl h)
