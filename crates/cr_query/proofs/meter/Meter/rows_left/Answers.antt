use Rattle.std.proofs.Common.{◌-◌, ap, ap₂, ◌∙◌}
use Rattle.cr_model.specs.Callings.{length_of}
use Rattle.cr_model.specs.Queries.{cap}
use Rattle.cr_query.specs.Meters.{MeterParts}
use Rattle.cr_query.proofs.Metering.{whole}
use Rattle.cr_query.proofs.meter.Meter.rows_left.Goals as goal

pub returns-clause-is : goal.returns-clause-is
returns-clause-is c =
    let m = c.self.inside in
    c.saturating_sub.ensures
    ∙ ap₂ (λ most long. most - long) c.self.invariant.0.found.most (c.length.ensures ∙ (whole m.problem m.leads.steps.items m.leads c.self.invariant.1).long)
    ∙ ap (λ (meter : MeterParts). cap meter.problem - length_of meter.problem meter.node) c.self.view_is
