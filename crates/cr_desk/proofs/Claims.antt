-- A claim ends a worker's work where asking for the next job does.
use Rattle.std.proofs.Common.{ℕ, Option, Some, None}
use Rattle.cr_board.specs.Boards.{BoardParts}
use Rattle.cr_board.specs.Choices.{refusal_of, next_place, next_answer, answer_by, claim_place, claim_answer, claimed_by}
use Rattle.cr_board.specs.declared.refusal.Refusal.{Refusal}
use Rattle.cr_board.specs.declared.refusal.Refusal.TheVariants as refusal
use Rattle.cr_board.specs.declared.place.Place.{Place}
use Rattle.cr_desk.specs.Asks.{EndsWork, IfEnded}

ended_alike : (b : BoardParts) (reason : Option Refusal) (claimed next : Option Place) → IfEnded (claimed_by b reason claimed) (EndsWork (answer_by b reason next))
ended_alike b (Some refusal.Stranger) claimed next = tt
ended_alike b (Some (refusal.Holding number)) claimed next = tt
ended_alike b (Some refusal.Spent) claimed next = tt
ended_alike b None (Some place) next = tt
ended_alike b None None next = tt

pub claim_ended : (b : BoardParts) (worker number : ℕ) → IfEnded (claim_answer b worker number) (EndsWork (next_answer b worker))
claim_ended b worker number = ended_alike b (refusal_of b worker) (claim_place b number) (next_place b worker)
