use Rattle.cr_query.proofs.StepSets.{joined_is}
use Rattle.cr_query.proofs.step_sets.joined.Goals as goal

pub returns : goal.returns
returns c step = joined_is c.args.set c.args.other step
