use Rattle.std.proofs.Common.{◌≡◌, ◌-◌, ◌||◌, map, ap, ap₂, ◌∙◌, refl, sym}
use Rattle.std.specs.List.{list_any}
use Rattle.cr_model.specs.Callings.{length_of}
use Rattle.cr_model.specs.Dead.{is_too_many, is_too_few}
use Rattle.cr_model.specs.Queries.{cap}
use Rattle.cr_query.specs.Gauges.{has_more_rows, has_fewer_rows}
use Rattle.cr_query.specs.Meters.{MeterParts, fitted, is_hopeless_by_leads, is_hopeless_by_rows}
use Rattle.cr_query.specs.Tallies.{fittings_at}
use Rattle.cr_query.proofs.Asked.{by_rows}
use Rattle.cr_query.proofs.Metering.{whole_rows}
use Rattle.cr_query.proofs.Told.{any_mapped, any_either}
use Rattle.cr_query.proofs.meter.Meter.is_hopeless_by_rows.Goals as goal

pub returns-clause-is : goal.returns-clause-is
returns-clause-is c =
    let m = c.self.inside in
    let node = m.leads.steps.items in
    let most = cap m.problem - length_of m.problem node in
    let gauges = map (fitted m.problem node) m.problem.query.patterns in
    let left : c.rows_left.result ≡ cap m.problem - length_of m.problem node =
    c.rows_left.ensures.is ∙ ap (λ (meter : MeterParts). cap meter.problem - length_of meter.problem meter.node) (sym c.self.view_is) in
    let all : fittings_at c.front.result c.deref.result.now ≡ gauges = ap₂ (λ n patterns. fittings_at n patterns) c.front.ensures c.deref.ensures.value ∙ whole_rows m.problem node m.patterns.items c.self.invariant.2 in
    c.some_are_out.ensures
    ∙ ap₂ (λ more fittings. list_any (λ fitting. has_more_rows fitting || has_fewer_rows more fitting) fittings) left all
    ∙ any_either has_more_rows (has_fewer_rows most) gauges
    ∙ ap₂ (λ a b. a || b) (any_mapped has_more_rows (fitted m.problem node) m.problem.query.patterns) (any_mapped (has_fewer_rows most) (fitted m.problem node) m.problem.query.patterns)
    ∙ ap (λ (meter : MeterParts). is_hopeless_by_rows meter.problem meter.node) c.self.view_is

pub returns-clause-whole : goal.returns-clause-whole
returns-clause-whole c told =
    let m = c.self.inside in
    let node = m.leads.steps.items in
    let most = cap m.problem - length_of m.problem node in
    let gauges = map (fitted m.problem node) m.problem.query.patterns in
    let left : c.rows_left.result ≡ cap m.problem - length_of m.problem node =
    c.rows_left.ensures.is ∙ ap (λ (meter : MeterParts). cap meter.problem - length_of meter.problem meter.node) (sym c.self.view_is) in
    let all : fittings_at c.front.result c.deref.result.now ≡ gauges = ap₂ (λ n patterns. fittings_at n patterns) c.front.ensures c.deref.ensures.value ∙ whole_rows m.problem node m.patterns.items c.self.invariant.2 in
    c.some_are_out.ensures
    ∙ ap₂ (λ more fittings. list_any (λ fitting. has_more_rows fitting || has_fewer_rows more fitting) fittings) left all
    ∙ any_either has_more_rows (has_fewer_rows most) gauges
    ∙ ap (λ b. list_any has_more_rows gauges || b) (any_mapped (has_fewer_rows most) (fitted m.problem node) m.problem.query.patterns)
    ∙ by_rows m.problem node (list_any has_more_rows gauges) (ap (λ (meter : MeterParts). is_hopeless_by_leads meter.problem meter.node) c.self.view_is ∙ told) refl
    ∙ ap (λ (meter : MeterParts). is_too_many meter.problem meter.node || is_too_few meter.problem meter.node) c.self.view_is
