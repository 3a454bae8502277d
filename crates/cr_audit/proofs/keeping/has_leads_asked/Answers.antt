use Rattle.std.proofs.Common.{◌∙◌, sym, subst}
use Rattle.cr_model.specs.Callings.{HasSteps}
use Rattle.cr_audit.proofs.Short.{touch_has_steps}
use Rattle.cr_audit.proofs.keeping.has_leads_asked.Goals as goal

pub has_length-requires : goal.has_length-requires
has_length-requires c =
    let p = c.args.problem.now in
    subst (HasSteps p) (sym c.requires.touch) (touch_has_steps p c.args.path.now.node.items c.requires.open.known)

pub is_com_met-requires : goal.is_com_met-requires
is_com_met-requires c =
    let p = c.args.problem.now in
    subst (HasSteps p) (sym (c.steps.ensures.is ∙ c.requires.touch)) (touch_has_steps p c.args.path.now.node.items c.requires.open.known)
