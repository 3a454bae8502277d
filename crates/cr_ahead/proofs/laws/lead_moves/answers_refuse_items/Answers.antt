use Rattle.std.proofs.Common.{nat_eq}
use Rattle.cr_model.specs.Callings.{mark_of, letter_of, rows_of}
use Rattle.cr_model.specs.Queries.{leads_marked, leads_lettered, rows_fitting, changes_of_method}
use Rattle.cr_model.specs.Dead.{parts_of}
use Rattle.cr_ahead.specs.Items.{count_item, method_item, pattern_item, com_item}
use Rattle.cr_ahead.specs.LeadMoves.{of_touches}
use Rattle.cr_ahead.proofs.LeadMoves.{tells_counted, tells_fitting, tells_changing, refused}
use Rattle.cr_ahead.proofs.laws.lead_moves.answers_refuse_items.Goals as goal

pub returns : goal.returns
returns c = record {
  marks = λ p heads m place node gains count sound moves at have answer.
      refused p node (count_item p count) (of_touches (parts_of p) (leads_marked p count.mark node) gains) sound
      (tells_counted p heads m place node sound moves at (λ step. nat_eq (mark_of p step) count.mark) gains have answer);
  methods = λ p heads m place node gains count sound moves at have answer.
      refused p node (method_item p count) (of_touches (parts_of p) (leads_lettered p count.letter node) gains) sound
      (tells_counted p heads m place node sound moves at (λ step. nat_eq (letter_of p step) count.letter) gains have answer);
  rows = λ p heads m place node gains pattern sound one moves at have answer.
      refused p node (pattern_item p pattern) (of_touches 1 (rows_fitting pattern.cells (rows_of p node)) gains) sound
      (tells_fitting p heads m place node sound moves at one pattern.cells gains have answer);
  changes = λ p heads m place node gains methods limits sound one moves at known last have answer.
      refused p node (com_item p limits) (of_touches 1 (changes_of_method p node) gains) sound
      (tells_changing p heads m place node sound moves at one methods gains known last have answer);
}
