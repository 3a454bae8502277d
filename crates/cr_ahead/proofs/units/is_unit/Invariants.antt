-- the steps before are some units long
use Rattle.std.proofs.Common.{◌≡◌, ℕ, ◌<◌, ◌%◌}
use Rattle.cr_model.specs.Callings.{lead_length}
use Rattle.cr_ahead.proofs.units.is_unit.Given as goal

abbrev pub invariant-loop-step : goal.invariant-loop-step
invariant-loop-step l = (k : ℕ) → k < l.step → lead_length l.problem k % l.unit ≡ 0
