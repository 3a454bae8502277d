-- Where a job is found, it stands; and what holds of a worker that is not refused.
use Rattle.std.proofs.Common.{◌≡◌, ℕ, ◌-◌, ◌<◌, Bool, true, false, cond, not, ◌||◌, nat_eq, nat_lt, length, get_or, Option, Some, None, option_map, refl, sym, ap, ◌∙◌, subst, arith}
use Rattle.std.specs.Prelude.{find}
use Rattle.std.proofs.lemmas.Bool.{ltb-true}
use Rattle.std.proofs.lemmas.Option.{none-some, same_Some}
use Rattle.cr_board.specs.Boards.{BoardParts, lane_at, held_at, promised}
use Rattle.cr_board.specs.Choices.{is_spent, refusal_of, refusal_to, is_busy, is_number, place_in, has_number, place_at, first_from, round, end_of, next_place, claim_place, Stands}
use Rattle.cr_board.specs.declared.held.Held.{Held}
use Rattle.cr_board.specs.declared.place.Place.{Place}
use Rattle.cr_board.specs.declared.refusal.Refusal.TheVariants as refusal
use Rattle.cr_board.proofs.Finding.{found_passes, round_passes}

-- a worker that is not refused
pub record IsFree (b : BoardParts) (who : ℕ) : Type 0 where
  pub worker : who < b.opening.workers
  pub stays : get_or b.resigned who false ≡ false
  pub idle : held_at b.held who ≡ None
  pub left : is_spent b.opening.budget (promised b) ≡ false

pub free_from : (b : BoardParts) (worker : ℕ) → refusal_of b worker ≡ None → IsFree b worker
free_from b worker free = by (nat_lt worker b.opening.workers) (get_or b.resigned worker false) refl refl
  where
    spent : (s : Bool) → is_spent b.opening.budget (promised b) ≡ s → cond s (Some refusal.Spent) None ≡ None → is_spent b.opening.budget (promised b) ≡ false
    spent true e h = absurd (none-some refusal.Spent (sym h))
    spent false e h = e

    idle : (held : Option Held) → held_at b.held worker ≡ held → refusal_to b held ≡ None → (held_at b.held worker ≡ None) × (is_spent b.opening.budget (promised b) ≡ false)
    idle (Some held) e h = absurd (none-some (refusal.Holding held.job.number) (sym h))
    idle None e h = (e, spent (is_spent b.opening.budget (promised b)) refl h)

    by : (inside resigned : Bool) → nat_lt worker b.opening.workers ≡ inside → get_or b.resigned worker false ≡ resigned → IsFree b worker
    by true false e f =
        let both = idle (held_at b.held worker) refl (sym (ap (λ s. cond s (Some refusal.Stranger) (refusal_to b (held_at b.held worker))) (ap (λ i. not i || get_or b.resigned worker false) e ∙ f)) ∙ free) in
        record { worker = ltb-true worker b.opening.workers e; stays = f; idle = both.0; left = both.1 }
    by true true e f = absurd (none-some refusal.Stranger (sym (sym (ap (λ s. cond s (Some refusal.Stranger) (refusal_to b (held_at b.held worker))) (ap (λ i. not i || get_or b.resigned worker false) e ∙ f)) ∙ free)))
    by false r e f = absurd (none-some refusal.Stranger (sym (sym (ap (λ s. cond s (Some refusal.Stranger) (refusal_to b (held_at b.held worker))) (ap (λ i. not i || get_or b.resigned worker false) e)) ∙ free)))

module _ (b : BoardParts) (lanes : length b.lanes ≡ b.opening.workers) where
  -- the place of a worker's next job
  pub next_stands : (worker : ℕ) (place : Place) → worker < b.opening.workers → next_place b worker ≡ Some place → Stands b.lanes place
  next_stands worker place inside found = by (find (is_busy b.lanes) (round worker b.opening.workers)) refl
    where
      stands : (lane : ℕ) → is_busy b.lanes lane ≡ true → lane < b.opening.workers → Stands b.lanes (end_of b worker lane)
      stands lane busy within =
          let some : 0 < length (lane_at b.lanes lane) = ltb-true 0 (length (lane_at b.lanes lane)) busy in
          record { lane = omega arith; place = at (nat_eq lane worker) some }
        where
          at : (own : Bool) → 0 < length (lane_at b.lanes lane) → cond own (length (lane_at b.lanes lane) - 1) 0 < length (lane_at b.lanes lane)
          at true some = omega arith
          at false some = some

      in_round : (lane : ℕ) → find (is_busy b.lanes) (round worker b.opening.workers) ≡ Some lane → Stands b.lanes (end_of b worker lane)
      in_round lane e = let (busy, within) = round_passes (is_busy b.lanes) worker b.opening.workers lane inside e in stands lane busy within

      by : (lane : Option ℕ) → find (is_busy b.lanes) (round worker b.opening.workers) ≡ lane → Stands b.lanes place
      by (Some lane) e = subst (Stands b.lanes) (same_Some (end_of b worker lane) place (sym (ap (option_map (end_of b worker)) e) ∙ found)) (in_round lane e)
      by None e = absurd (none-some place (sym (ap (option_map (end_of b worker)) e) ∙ found))

  -- the place of the job of a number
  pub claim_stands : (number : ℕ) (place : Place) → claim_place b number ≡ Some place → Stands b.lanes place × (is_number (lane_at b.lanes place.lane) number place.place ≡ true)
  claim_stands number place found = by (first_from (has_number b.lanes number) 0 b.opening.workers) refl
    where
      at_lane : ℕ → ℕ → Place
      at_lane lane k = record { lane = lane; place = k }

      inner : (lane : ℕ) (at : Option ℕ) → place_in (lane_at b.lanes lane) number ≡ at → lane < b.opening.workers
          → option_map (at_lane lane) at ≡ Some place → Stands b.lanes place × (is_number (lane_at b.lanes place.lane) number place.place ≡ true)
      inner lane None e within h = absurd (none-some place h)
      inner lane (Some k) e within h =
          let (passes, low, high) = found_passes (is_number (lane_at b.lanes lane) number) 0 (length (lane_at b.lanes lane) - 0) k e in
          subst (λ pl. Stands b.lanes pl × (is_number (lane_at b.lanes pl.lane) number pl.place ≡ true)) (same_Some (record { lane = lane; place = k }) place h)
          (record { lane = omega arith; place = omega arith }, passes)

      by : (lane : Option ℕ) → first_from (has_number b.lanes number) 0 b.opening.workers ≡ lane → Stands b.lanes place × (is_number (lane_at b.lanes place.lane) number place.place ≡ true)
      by None e = absurd (none-some place (sym (ap (place_at b.lanes number) e) ∙ found))
      by (Some lane) e =
          let (passes, low, high) = found_passes (has_number b.lanes number) 0 (b.opening.workers - 0) lane e in
          inner lane (place_in (lane_at b.lanes lane) number) refl (omega arith) (sym (ap (place_at b.lanes number) e) ∙ found)
