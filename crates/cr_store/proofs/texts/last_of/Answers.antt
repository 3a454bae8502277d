use Rattle.std.proofs.Common.{◌∙◌, sym}
use Rattle.cr_store.proofs.StepTexts.{last_is}
use Rattle.cr_store.proofs.texts.last_of.Goals as goal

pub returns-in-Some : goal.returns-in-Some
returns-in-Some c = c.steps.ensures.is ∙ last_is c.args.before.now c.args.job.now c.in-Some.node.now (sym c.in-Some.ensures.value)
