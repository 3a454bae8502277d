use Rattle.std.proofs.Common.{◌<◌, ◌∙◌, arith}
use Rattle.cr_model.specs.ProblemFiles.{called_lead, call_with}
use Rattle.cr_read.proofs.Ranges.{flat_on}
use Rattle.cr_read.proofs.leads.add_method.Goals as goal

pub loop-mark-preserved : goal.loop-mark-preserved
loop-mark-preserved c =
    let low : c.loop-mark.mark < 123 = omega arith in
    rw c.in_ok-add_called.ensures (flat_on (λ mark. called_lead c.args.file.now c.args.spellings.now c.args.method mark (call_with c.args.file.now c.args.method mark)) c.loop-mark.leads.items c.loop-mark.mark 123 low ∙ c.loop-mark.invariant)
