use Rattle.std.proofs.Common.{◌<◌, ◌∙◌, length, arith}
use Rattle.cr_model.specs.ProblemFiles.{leads_of_method}
use Rattle.cr_read.proofs.Ranges.{flat_on}
use Rattle.cr_read.proofs.leads.leads_of.Goals as goal

pub loop-method-preserved : goal.loop-method-preserved
loop-method-preserved c =
    let low : c.loop-method.method < length c.args.file.now.methods = omega arith in
    rw c.in_ok-add_method.ensures (flat_on (leads_of_method c.args.file.now c.args.spellings.now) c.loop-method.leads.items c.loop-method.method (length c.args.file.now.methods) low ∙ c.loop-method.invariant)
