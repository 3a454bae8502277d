use Rattle.std.proofs.Common.{◌-◌, ◌^◌, ◌*◌, ◌%◌}
use Rattle.cr_query.proofs.StepSets.{mask_is, first_same, none_beyond}
use Rattle.cr_query.proofs.step_sets.first_steps.Goals as goal

pub returns-clause-each : goal.returns-clause-each
returns-clause-each c step below = first_same c.args.set c.args.number (1 * 2 ^ c.args.number % 2 ^ 32 - 1) (mask_is c.args.number c.requires) step below

pub returns-clause-others : goal.returns-clause-others
returns-clause-others c step beyond = none_beyond c.args.set c.args.number (1 * 2 ^ c.args.number % 2 ^ 32 - 1) (mask_is c.args.number c.requires) step beyond
