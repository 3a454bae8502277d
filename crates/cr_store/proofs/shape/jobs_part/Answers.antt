-- The line `jobs` is wrong, or a line after it.
use Rattle.std.proofs.Common.{map}
use Rattle.std.proofs.lemmas.Result.{IfOk-weaker, IfErr-weaker}
use Rattle.cr_store.specs.ShapeReads.{job_parts}
use Rattle.cr_store.specs.ShapeStages.{AtJobs, AtJobCount}
use Rattle.cr_store.proofs.ShapeStops.{job_count_wrong, job_count_after, jobs_part_from, stops_on}
use Rattle.cr_store.proofs.shape.jobs_part.Goals as goal

pub returns-in-Some-clause-jobs : goal.returns-in-Some-clause-jobs
returns-in-Some-clause-jobs c =
    IfOk-weaker c.jobs_of.result _ _
    (λ x read. jobs_part_from c.args.version c.in-Some.count c.args.text.now c.in-Some.rest.now (map job_parts x.0.items) x.1.now c.in-Some.ensures.some.0 c.in-Some.ensures.some.1 read)
    c.jobs_of.ensures.jobs

pub returns-in-Some-clause-stops : goal.returns-in-Some-clause-stops
returns-in-Some-clause-stops c =
    IfErr-weaker c.jobs_of.result _ _
    (λ why stops.
    stops_on (AtJobCount c.args.version) (AtJobs c.args.version c.in-Some.count) c.args.text.now c.in-Some.rest.now
    (job_count_after c.args.version c.in-Some.count c.args.text.now c.in-Some.rest.now c.in-Some.ensures.some.0 c.in-Some.ensures.some.1) why stops)
    c.jobs_of.ensures.stops

pub returns-in-None-clause-stops : goal.returns-in-None-clause-stops
returns-in-None-clause-stops c = job_count_wrong c.args.version c.args.text.now c.in-None.ensures.none
