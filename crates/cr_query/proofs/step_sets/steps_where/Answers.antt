use Rattle.std.proofs.Common.{◌∙◌, ◌||◌, ap₂, ℕ}
use Rattle.cr_query.specs.Sets.{has_step}
use Rattle.cr_query.proofs.StepSets.{where_is}
use Rattle.cr_query.proofs.step_sets.steps_where.Goals as goal

pub returns : goal.returns
returns c step low =
    c.joined.ensures step
    ∙ ap₂ (λ (a b : ℕ). has_step a step || has_step b step) c.if_asked.ensures c.if_asked-2.ensures
    ∙ where_is c.args.set c.others.result step c.args.inside c.args.outside (c.others.ensures step low)
