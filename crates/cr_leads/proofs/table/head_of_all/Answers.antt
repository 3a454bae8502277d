use Rattle.std.proofs.Common.{refl, arith}
use Rattle.cr_leads.proofs.Steps.{head_more}
use Rattle.cr_leads.proofs.table.head_of_all.Goals as goal

pub loop-step-preserved : goal.loop-step-preserved
loop-step-preserved c =
    head_more c.joined_callings_multiply.ensures.head c.args.table.now c.args.steps.now c.loop-step.step-index _ c.loop-step.head c.next_head-head.result
    c.loop-step.invariant (omega arith) refl c.next_head-head.ensures.is c.next_head-head.ensures.row
