use Rattle.std.proofs.Common.{◌≡◌, length, take, Some}
use Rattle.cr_model.specs.Callings.{changes_of_all, rows_of}
use Rattle.cr_model.specs.Queries.{repeated}
use Rattle.cr_prune.specs.Parts.{RingsPast}
use Rattle.cr_prune.proofs.further_parts.bring_new_rows.Given as goal

abbrev pub invariant-loop-part : goal.invariant-loop-part
invariant-loop-part l = record {
  stage : length l.row ≡ l.problem.stage;
  past : RingsPast (rows_of l.problem (take l.first.fresh l.node)) l.fn.head (changes_of_all l.problem (repeated l._part l.node)) (Some l.row);
}
