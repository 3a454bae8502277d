-- Each part that is wrong, after those before it, and the whole shape.
use Rattle.std.proofs.Common.{map}
use Rattle.cr_store.specs.ShapeReads.{found_parts, job_parts}
use Rattle.cr_store.specs.ShapeSteps.{StopsAtAll}
use Rattle.cr_store.proofs.ShapeStops.{passed_on, head_after, jobs_stop, end_stops}
use Rattle.cr_store.proofs.ShapeWhole.{shape_from}
use Rattle.cr_store.proofs.shape.shape_of.Goals as goal

pub returns-in_err-found-clause-stops : goal.returns-in_err-found-clause-stops
returns-in_err-found-clause-stops c =
    passed_on c.from_residual-in_err-found.result c.in_err-found.field-0.0 (StopsAtAll c.args.text.now) c.from_residual-in_err-found.ensures.1
    (head_after c.args.text.now c.in_ok-version.version c.in_ok-version.problem.now c.in_ok-version.rest.now c.in_ok-version.ensures.head c.in_err-found.field-0.0
    (c.in_err-found.ensures.stops c.in_ok-version.version))

pub returns-in_err-jobs-clause-stops : goal.returns-in_err-jobs-clause-stops
returns-in_err-jobs-clause-stops c =
    passed_on c.from_residual-in_err-jobs.result c.in_err-jobs.field-0.0 (StopsAtAll c.args.text.now) c.from_residual-in_err-jobs.ensures.1
    (jobs_stop c.args.text.now c.in_ok-version.version c.in_ok-version.problem.now c.in_ok-version.rest.now (map found_parts c.in_ok-found.found.items)
    c.in_ok-found.rest.now c.in_err-jobs.field-0.0 c.in_ok-version.ensures.head c.in_ok-found.ensures.found c.in_err-jobs.ensures.stops)

pub returns-in_err-end_part-clause-stops : goal.returns-in_err-end_part-clause-stops
returns-in_err-end_part-clause-stops c =
    passed_on c.from_residual-in_err-end_part.result c.in_err-end_part.field-0.0 (StopsAtAll c.args.text.now) c.from_residual-in_err-end_part.ensures.1
    (end_stops c.args.text.now c.in_ok-version.version c.in_ok-version.problem.now c.in_ok-version.rest.now (map found_parts c.in_ok-found.found.items)
    c.in_ok-found.rest.now (map job_parts c.in_ok-jobs.jobs.items) c.in_ok-jobs.rest.now c.in_err-end_part.field-0.0 c.in_ok-version.ensures.head
    c.in_ok-found.ensures.found c.in_ok-jobs.ensures.jobs c.in_err-end_part.ensures.stops)

pub returns-clause-shape : goal.returns-clause-shape
returns-clause-shape c =
    shape_from c.args.text.now c.in_ok-version.version c.in_ok-version.problem.now c.in_ok-version.rest.now (map found_parts c.in_ok-found.found.items)
    c.in_ok-found.rest.now (map job_parts c.in_ok-jobs.jobs.items) c.in_ok-jobs.rest.now c.in_ok-version.ensures.head c.in_ok-found.ensures.found
    c.in_ok-jobs.ensures.jobs c.in_ok-end_part.ensures.end
