use Rattle.std.proofs.Common.{nat_eq}
use Rattle.cr_model.specs.Callings.{mark_of, letter_of}
use Rattle.cr_ahead.proofs.LeadMoves.{tells_counted, tells_fitting, tells_changing}
use Rattle.cr_ahead.proofs.laws.lead_moves.answers_tell_of_touches.Goals as goal

pub returns : goal.returns
returns c = record {
  marks = λ p heads m place node gains mark sound moves at have answer.
      tells_counted p heads m place node sound moves at (λ step. nat_eq (mark_of p step) mark) gains have answer;
  methods = λ p heads m place node gains letter sound moves at have answer.
      tells_counted p heads m place node sound moves at (λ step. nat_eq (letter_of p step) letter) gains have answer;
  rows = λ p heads m place node gains cells sound one moves at have answer.
      tells_fitting p heads m place node sound moves at one cells gains have answer;
  changes = λ p heads m place node gains methods sound one moves at known last have answer.
      tells_changing p heads m place node sound moves at one methods gains known last have answer;
}
