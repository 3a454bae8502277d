use Rattle.std.proofs.Common.{◌≡◌}
use Rattle.cr_model.specs.Sizes.{child}
use Rattle.cr_query.specs.Meters.{is_hopeless_by_leads}
use Rattle.cr_query.specs.Sets.{steps_of}
use Rattle.cr_query.proofs.meter.Meter.hopeless_one_by_one.Given as goal

abbrev pub invariant-loop-step : goal.invariant-loop-step
invariant-loop-step l = l.set ≡ steps_of (λ step. is_hopeless_by_leads l.self.problem (child l.self.node step)) l.step
