use Rattle.std.proofs.Common.{◌≡◌, false, ◌||◌, map, ap, ap₂, ◌∙◌, sym}
use Rattle.std.specs.List.{list_any}
use Rattle.cr_model.specs.Dead.{is_too_many}
use Rattle.cr_query.specs.Gauges.{has_more_rows}
use Rattle.cr_query.specs.Meters.{MeterParts, fitted, has_too_many_leads}
use Rattle.cr_query.specs.Tallies.{fittings_at}
use Rattle.cr_query.proofs.Told.{many_in_order}
use Rattle.cr_query.proofs.Metering.{whole_rows}
use Rattle.cr_query.proofs.meter.Meter.has_too_many.Goals as goal

pub returns-else-has_too_many_leads : goal.returns-else-has_too_many_leads
returns-else-has_too_many_leads c =
    let m = c.self.inside in
    let node = m.leads.steps.items in
    let rows : c.some_have_more.result ≡ list_any has_more_rows (map (fitted m.problem node) m.problem.query.patterns) =
    c.some_have_more.ensures ∙ ap (list_any has_more_rows) (ap₂ (λ n patterns. fittings_at n patterns) c.front.ensures c.deref.ensures.value ∙ whole_rows m.problem node m.patterns.items c.self.invariant.2) in
    let told : has_too_many_leads m.problem node ≡ false = ap (λ (meter : MeterParts). has_too_many_leads meter.problem meter.node) c.self.view_is ∙ sym c.has_too_many_leads.ensures ∙ c.if-has_too_many_leads.false in
    ap (λ b. b || c.some_have_more.result) (sym told)
    ∙ many_in_order m.problem node c.some_have_more.result rows
    ∙ ap (λ (meter : MeterParts). is_too_many meter.problem meter.node) c.self.view_is
