use Rattle.std.proofs.Common.{ap, ◌∙◌, arith}
use Rattle.cr_query.specs.Meters.{MeterParts, parent, meter_from}
use Rattle.cr_query.proofs.Metering.{fittings_fewer, kept}
use Rattle.cr_query.proofs.meter.Meter.take_last.Goals as goal

pub invariant_of-self : goal.invariant_of-self
invariant_of-self c =
    let m = c.self.inside in
    let p = m.problem in
    let node = m.leads.steps.items in
    let counted = c.take_last.ensures.is p node c.self.invariant.1 in
    let all = kept p (parent node) c.take_last.new.self m.patterns.items c.self.invariant.0.sound counted (fittings_fewer p node m.patterns.items c.self.invariant.2) in
    (c.self.invariant.0, all.0, all.1, c.self.invariant.3, all.2, all.3, omega (arith, c.take_last.ensures.room, c.self.invariant.6), c.self.invariant.7)

pub returns : goal.returns
returns c =
    ap (meter_from c.self.inside.problem) c.take_last.ensures.steps
    ∙ ap (λ (meter : MeterParts). meter_from meter.problem (parent meter.node)) c.self.view_is
