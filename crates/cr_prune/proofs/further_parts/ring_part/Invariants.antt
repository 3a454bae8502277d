use Rattle.std.proofs.Common.{◌≡◌, length, take, Some}
use Rattle.cr_model.specs.Callings.{changes_of_all, rows_of}
use Rattle.cr_prune.specs.Parts.{RingsPast}
use Rattle.cr_prune.proofs.further_parts.ring_part.Given as goal

abbrev pub invariant-loop-step : goal.invariant-loop-step
invariant-loop-step l = record {
  stage : length l.row ≡ l.problem.stage;
  past : RingsPast (rows_of l.problem (take l.first.fresh l.node)) l.fn.from (changes_of_all l.problem (take l.step-index l.node)) (Some l.row);
}
