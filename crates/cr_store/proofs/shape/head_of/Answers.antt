-- The first line is wrong, or the problem.
use Rattle.cr_store.specs.ShapeSteps.{StopsAtAll}
use Rattle.cr_store.proofs.ShapeStops.{start_wrong, stops_at_problem, passed_on}
use Rattle.cr_store.proofs.shape.head_of.Goals as goal

pub returns-in_default-clause-stops : goal.returns-in_default-clause-stops
returns-in_default-clause-stops c = start_wrong c.args.text.now c.in_default.ensures.none

pub returns-in_err-problem-clause-stops : goal.returns-in_err-problem-clause-stops
returns-in_err-problem-clause-stops c =
    passed_on c.from_residual.result c.in_err-problem.field-0.0 (StopsAtAll c.args.text.now) c.from_residual.ensures.1
    (stops_at_problem c.in-Some.version c.args.text.now c.in-Some.rest.now c.in-Some.ensures.some.0 c.in-Some.ensures.some.1 c.in_err-problem.field-0.0 c.in_err-problem.ensures.stops)
