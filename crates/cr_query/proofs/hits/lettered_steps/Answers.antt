use Rattle.std.proofs.Common.{nat_eq}
use Rattle.cr_model.specs.Callings.{letter_of}
use Rattle.cr_query.proofs.StepSets.{no_steps, more_steps}
use Rattle.cr_query.proofs.hits.lettered_steps.Goals as goal

pub loop-step-init : goal.loop-step-init
loop-step-init c = no_steps (λ step. nat_eq (letter_of c.args.problem.now step) c.args.letter)

pub loop-step-preserved : goal.loop-step-preserved
loop-step-preserved c =
    more_steps (λ step. nat_eq (letter_of c.args.problem.now step) c.args.letter) c.loop-step.step c.loop-step.set c.with_step-set.result c.loop-step.invariant
    (rw c.kind_of.ensures at c.with_step-set.ensures.put)
