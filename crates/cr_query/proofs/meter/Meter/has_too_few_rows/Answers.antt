use Rattle.std.proofs.Common.{◌≡◌, ◌-◌, sym, ap, ap₂, ◌∙◌}
use Rattle.std.specs.List.{list_any}
use Rattle.cr_model.specs.Callings.{length_of}
use Rattle.cr_model.specs.Queries.{cap}
use Rattle.cr_query.specs.Gauges.{has_fewer_rows}
use Rattle.cr_query.specs.Meters.{MeterParts, fitted, has_too_few_rows}
use Rattle.cr_query.specs.Tallies.{fittings_at}
use Rattle.cr_query.proofs.Metering.{whole_rows}
use Rattle.cr_query.proofs.Told.{any_mapped}
use Rattle.cr_query.proofs.meter.Meter.has_too_few_rows.Goals as goal

pub returns : goal.returns
returns c =
    let m = c.self.inside in
    let node = m.leads.steps.items in
    let left : c.rows_left.result ≡ cap m.problem - length_of m.problem node =
    c.rows_left.ensures.is ∙ ap (λ (meter : MeterParts). cap meter.problem - length_of meter.problem meter.node) (sym c.self.view_is) in
    c.some_have_fewer.ensures
    ∙ ap (λ more. list_any (has_fewer_rows more) (fittings_at c.front.result c.deref.result.now)) left
    ∙ ap₂ (λ n patterns. list_any (has_fewer_rows (cap m.problem - length_of m.problem node)) (fittings_at n patterns)) c.front.ensures c.deref.ensures.value
    ∙ ap (list_any (has_fewer_rows (cap m.problem - length_of m.problem node))) (whole_rows m.problem node m.patterns.items c.self.invariant.2)
    ∙ any_mapped (has_fewer_rows (cap m.problem - length_of m.problem node)) (fitted m.problem node) m.problem.query.patterns
    ∙ ap (λ (meter : MeterParts). has_too_few_rows meter.problem meter.node) c.self.view_is
