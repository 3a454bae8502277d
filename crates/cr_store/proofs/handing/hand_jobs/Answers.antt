use Rattle.cr_store.proofs.HandedNodes.{job_more, last_of_jobs}
use Rattle.cr_store.proofs.handing.hand_jobs.Goals as goal

pub hand_job-requires : goal.hand_job-requires
hand_job-requires g c = last_of_jobs c.args.problem.now _ c.args.lines.now.last _ c.loop-done.lines.last _ _ c.loop-done._done c.requires c.loop-done.invariant

pub loop-done-preserved : goal.loop-done-preserved
loop-done-preserved g c =
    job_more c.args.problem.now _ _ _ c.loop-done.lines.rest.now c.loop-done.lines.last c.hand_job.new.lines.rest.now c.hand_job.new.lines.last _ _ c.loop-done._done
    c.loop-done.invariant (c.in_ok-hand_job.ensures c.if-not-branch.false)
