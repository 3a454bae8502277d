use Rattle.cr_query.proofs.StepSets.{others_are}
use Rattle.cr_query.proofs.step_sets.others.Goals as goal

pub returns : goal.returns
returns c step low = others_are c.args.set step low
