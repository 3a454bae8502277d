use Rattle.std.proofs.Common.{◌∙◌, ap₂, ap, cond}
use Rattle.cr_query.specs.declared.gauges.Gauge.{Gauge}
use Rattle.cr_query.specs.Gauges.{is_out}
use Rattle.cr_query.specs.Sets.{has_step}
use Rattle.cr_query.proofs.Asked.{counted_or_not}
use Rattle.cr_query.proofs.gauges.steps_out.Goals as goal

pub returns : goal.returns
returns c step low =
    c.steps_where.ensures step low
    ∙ ap₂ (λ a b. cond (has_step c.args.set step) a b) (c.is_out.ensures ∙ ap (λ (g : Gauge). is_out c.args.more g) c.one_more.ensures) c.is_out-2.ensures
    ∙ counted_or_not c.args.more c.args.gauge (has_step c.args.set step)
