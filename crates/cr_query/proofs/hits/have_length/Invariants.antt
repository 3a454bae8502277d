use Rattle.std.proofs.Common.{◌≡◌, ◌<◌, ℕ}
use Rattle.cr_model.specs.Callings.{lead_length}
use Rattle.cr_query.proofs.hits.have_length.Given as goal

abbrev pub invariant-loop-step : goal.invariant-loop-step
invariant-loop-step l = (step : ℕ) → step < l.step → lead_length l.problem step ≡ l.number
