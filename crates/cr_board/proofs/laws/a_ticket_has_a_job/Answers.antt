use Rattle.cr_board.proofs.Tickets.{given_is_job, claimed_is_job}
use Rattle.cr_board.proofs.laws.a_ticket_has_a_job.Goals as goal

pub returns : goal.returns
returns c = record {
  next = λ b worker part. given_is_job b part worker;
  claimed = λ b worker number part. claimed_is_job b part worker number;
}
