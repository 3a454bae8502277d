use Rattle.std.proofs.Common.{◌≡◌, ◌/◌, map}
use Rattle.std.specs.List.{range_with_len}
use Rattle.cr_model.specs.Callings.{lead_length}
use Rattle.cr_ahead.proofs.units.lengths_in_units.Given as goal

abbrev pub invariant-loop-step : goal.invariant-loop-step
invariant-loop-step l = l.lengths.items ≡ map (λ step. lead_length l.problem step / l.unit) (range_with_len 0 l.step)
