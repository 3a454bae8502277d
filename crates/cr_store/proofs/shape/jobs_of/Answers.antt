-- A job that is none, and one more.
use Rattle.std.proofs.Common.{map}
use Rattle.cr_store.specs.Shapes.{IsJobLines, job_text}
use Rattle.cr_store.specs.ShapeReads.{job_parts}
use Rattle.cr_store.specs.ShapeStages.{AtJobs}
use Rattle.cr_store.specs.ShapeSteps.{Stops}
use Rattle.cr_store.proofs.ShapeCodes.{read_push}
use Rattle.cr_store.proofs.ShapeStops.{jobs_wrong, passed_on}
use Rattle.cr_store.proofs.shape.jobs_of.Goals as goal

pub returns-in_err-job-clause-stops : goal.returns-in_err-job-clause-stops
returns-in_err-job-clause-stops c =
    passed_on c.from_residual.result c.in_err-job.field-0.0 (Stops (AtJobs c.args.version c.args.count) c.args.text.now) c.from_residual.ensures.1
    (jobs_wrong c.args.version c.loop-done._done c.args.count c.args.text.now (map job_parts c.loop-done.jobs.items) c.loop-done.rest.now c.loop-done.invariant
    c.loop-done-test.true c.in_err-job.field-0.0 c.in_err-job.ensures.stops)

pub loop-done-preserved : goal.loop-done-preserved
loop-done-preserved c =
    read_push (job_text c.args.version) (IsJobLines c.args.version) job_parts c.loop-done._done c.args.text.now c.loop-done.jobs.items c.push.new.self.items
    c.in_ok-job.job c.loop-done.rest.now c.in_ok-job.after.now c.loop-done.invariant c.in_ok-push.ensures.items c.in_ok-job.ensures.job.0 c.in_ok-job.ensures.job.1
