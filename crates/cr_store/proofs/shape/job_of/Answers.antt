-- The line `job` is wrong, or a line after it.
use Rattle.std.proofs.Common.{suc}
use Rattle.cr_store.specs.ShapeStages.{AtNodes, AtJobs}
use Rattle.std.proofs.lemmas.Result.{IfErr-weaker}
use Rattle.cr_store.proofs.ShapeStops.{job_wrong, job_after, stops_on}
use Rattle.cr_store.proofs.shape.job_of.Goals as goal

pub returns-in-Some-clause-stops : goal.returns-in-Some-clause-stops
returns-in-Some-clause-stops c =
    IfErr-weaker c.node_lines.result _ _
    (λ why stops n.
    stops_on (AtJobs c.args.version (suc n)) (AtNodes c.args.version (AtJobs c.args.version n) c.in-Some.count) c.args.text.now c.in-Some.rest.now
    (job_after c.args.version n c.in-Some.count c.args.text.now c.in-Some.rest.now c.in-Some.ensures.some.0 c.in-Some.ensures.some.1) why (stops n))
    c.node_lines.ensures.stops

pub returns-in-None-clause-stops : goal.returns-in-None-clause-stops
returns-in-None-clause-stops c = λ n. job_wrong c.args.version n c.args.text.now c.in-None.ensures.none
