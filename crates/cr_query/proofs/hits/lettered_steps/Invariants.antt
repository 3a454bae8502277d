use Rattle.std.proofs.Common.{◌≡◌, nat_eq}
use Rattle.cr_model.specs.Callings.{letter_of}
use Rattle.cr_query.specs.Sets.{steps_of}
use Rattle.cr_query.proofs.hits.lettered_steps.Given as goal

abbrev pub invariant-loop-step : goal.invariant-loop-step
invariant-loop-step l = l.set ≡ steps_of (λ step. nat_eq (letter_of l.problem step) l.letter) l.step
