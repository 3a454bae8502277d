use Rattle.std.proofs.Common.{◌&&◌, ◌<◌, sym, ◌∙◌, length, arith}
use Rattle.std.specs.Prelude.{nat_eq}
use Rattle.cr_model.specs.ProblemFiles.{mark_at, is_for}
use Rattle.cr_read.proofs.Ranges.{find_on}
use Rattle.cr_read.proofs.leads.call_with.Goals as goal

pub loop-call-preserved : goal.loop-call-preserved
loop-call-preserved c =
    let low : c.loop-call.call < length c.args.file.now.calls = omega arith in
    find_on (λ call. nat_eq (mark_at c.args.file.now call) c.args.mark && is_for c.args.file.now call c.args.method) c.loop-call.call (length c.args.file.now.calls) low (sym c.is_called.ensures ∙ c.if-is_called.false) ∙ c.loop-call.invariant
