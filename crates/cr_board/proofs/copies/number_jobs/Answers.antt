use Rattle.std.proofs.Common.{◌∙◌, arith}
use Rattle.cr_board.proofs.Reading.{number_more}
use Rattle.cr_board.proofs.copies.number_jobs.Goals as goal

pub loop-job-preserved : goal.loop-job-preserved
loop-job-preserved c = c.in_ok-push.ensures.items
    ∙ number_more c.args.jobs.now c.loop-job.lane.items c.loop-job.job-index c.len-number.result c.job-item.result c.in_ok-nodes.nodes.items c.loop-job-test.true c.job-item.is
    (c.in_ok-nodes.ensures ∙ c.deref.ensures.value) (omega (arith, c.len-number.ensures, c.loop-job.lane.ok)) c.loop-job.invariant
