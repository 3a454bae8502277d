use Rattle.cr_store.proofs.StepTexts.{job_known}
use Rattle.cr_store.proofs.texts.write_jobs.Goals as goal

pub write_job-requires : goal.write_job-requires
write_job-requires g c =
    job_known g.J.Job.nodes c.args.problem.now c.args.jobs.now c.loop-job.job-index c.job-item.result c.loop-job-test.true c.job-item.is c.requires
