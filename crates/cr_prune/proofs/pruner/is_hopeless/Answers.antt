use Rattle.std.proofs.Common.{◌∙◌}
use Rattle.cr_model.specs.Dead.{is_too_many, is_too_few}
use Rattle.cr_prune.proofs.Reasons.{hopeless_told}
use Rattle.cr_prune.proofs.pruner.is_hopeless.Goals as goal

pub returns : goal.returns
returns c =
    c.is_some.ensures
    ∙ hopeless_told c.hopeless.result (is_too_many c.args.walk.now.problem c.args.walk.now.node) (is_too_few c.args.walk.now.problem c.args.walk.now.node) c.hopeless.ensures.many c.hopeless.ensures.few
