use Rattle.std.proofs.Common.{◌≡◌, ◌≤◌, ◌*◌, length, take}
use Rattle.std.specs.Prelude.{sum_by}
use Rattle.cr_model.specs.Callings.{changes_at}
use Rattle.cr_model.proofs.lengths.total_length.Given as goal

abbrev pub invariant-loop-step : goal.invariant-loop-step
invariant-loop-step l = (l.total ≡ sum_by (λ step. length (changes_at l.leads step)) (take l.step-index l.steps)) × (l.total ≤ 128 * l.step-index)
