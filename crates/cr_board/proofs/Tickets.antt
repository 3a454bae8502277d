-- A ticket has a job: its nodes are some of a board's that are held after the take.
use Rattle.std.proofs.Common.{◌≡◌, ℕ, ◌<◌, length, Option, Some, None, refl, arith}
use Rattle.std.proofs.lemmas.List.{get_or-set_same}
use Rattle.cr_node.specs.Work.{IsJob}
use Rattle.cr_board.specs.Boards.{BoardParts}
use Rattle.cr_board.specs.Choices.{refusal_of, next_place, claim_place, answer_by, claimed_by, next_answer, claim_answer, waits_for, first_from, is_holding, job_at, grant_now, Stands, IfJob, IfClaimed}
use Rattle.cr_board.specs.Partitions.{Partition}
use Rattle.cr_board.specs.Moves.{taken_at}
use Rattle.cr_board.specs.declared.held.Held.{Held}
use Rattle.cr_board.specs.declared.place.Place.{Place}
use Rattle.cr_board.specs.declared.refusal.Refusal.{Refusal}
use Rattle.cr_board.specs.declared.refusal.Refusal.TheVariants as refusal
use Rattle.cr_board.proofs.Asking.{free_from, next_stands, claim_stands}
use Rattle.cr_board.proofs.Moving.{after_take, is_job}

module _ (b : BoardParts) (part : Partition b) (worker : ℕ) where
  taken_is_job : (place : Place) → refusal_of b worker ≡ None → Stands b.lanes place → IsJob b.opening.problem (job_at b.lanes place).nodes
  taken_is_job place free stands =
      let is = free_from b worker free in
      let mine : Held = record { job = job_at b.lanes place; grant = grant_now b } in
      let inside : worker < length b.held = omega (arith, is.worker, part.shape.held) in
      is_job (taken_at b worker place) (after_take b part worker place inside is.idle is.stays stands) worker mine
      (get_or-set_same b.held worker (Some mine) None inside)

  pub given_is_job : IfJob (next_answer b worker) (λ ticket. IsJob b.opening.problem ticket.nodes)
  given_is_job = by (refusal_of b worker) (next_place b worker) refl refl
    where
      waits : (other : Option ℕ) → IfJob (waits_for other) (λ ticket. IsJob b.opening.problem ticket.nodes)
      waits (Some other) = tt
      waits None = tt

      by : (r : Option Refusal) (place : Option Place) → refusal_of b worker ≡ r → next_place b worker ≡ place
          → IfJob (answer_by b r place) (λ ticket. IsJob b.opening.problem ticket.nodes)
      by (Some refusal.Stranger) place free at = tt
      by (Some (refusal.Holding number)) place free at = tt
      by (Some refusal.Spent) place free at = tt
      by None (Some place) free at = taken_is_job place free (next_stands b part.shape.lanes worker place (free_from b worker free).worker at)
      by None None free at = waits (first_from (is_holding b.held) 0 b.opening.workers)

  pub claimed_is_job : (number : ℕ) → IfClaimed (claim_answer b worker number) (λ ticket. IsJob b.opening.problem ticket.nodes)
  claimed_is_job number = by (refusal_of b worker) (claim_place b number) refl refl
    where
      by : (r : Option Refusal) (place : Option Place) → refusal_of b worker ≡ r → claim_place b number ≡ place
          → IfClaimed (claimed_by b r place) (λ ticket. IsJob b.opening.problem ticket.nodes)
      by (Some refusal.Stranger) place free at = tt
      by (Some (refusal.Holding other)) place free at = tt
      by (Some refusal.Spent) place free at = tt
      by None (Some place) free at = taken_is_job place free (claim_stands b part.shape.lanes number place at).0
      by None None free at = tt
