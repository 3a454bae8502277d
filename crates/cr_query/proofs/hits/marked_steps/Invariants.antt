use Rattle.std.proofs.Common.{◌≡◌, nat_eq}
use Rattle.cr_model.specs.Callings.{mark_of}
use Rattle.cr_query.specs.Sets.{steps_of}
use Rattle.cr_query.proofs.hits.marked_steps.Given as goal

abbrev pub invariant-loop-step : goal.invariant-loop-step
invariant-loop-step l = l.set ≡ steps_of (λ step. nat_eq (mark_of l.problem step) l.mark) l.step
