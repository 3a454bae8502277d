use Rattle.std.proofs.Common.{◌↔◌, IsTrue, ap₂, subst, ◌∙◌}
use Rattle.cr_model.specs.OneTurn.{touch_of}
use Rattle.cr_query.specs.Meeting.{MeetsCounts}
use Rattle.cr_query.specs.Meters.{MeterParts}
use Rattle.cr_query.specs.Tallies.{gauges_at}
use Rattle.cr_query.proofs.Metering.{whole, marks_met}
use Rattle.cr_query.proofs.Sizes.{parts_some}
use Rattle.cr_query.proofs.meter.Meter.meets_mark_counts.Goals as goal

pub returns : goal.returns
returns c =
    let m = c.self.inside in
    let same = marks_met m.problem m.leads.steps.items (gauges_at c.front.result c.deref.result.now) (parts_some m.problem c.self.invariant.0.sound)
    (ap₂ (λ n tallies. gauges_at n tallies) c.front.ensures c.deref.ensures.value ∙ (whole m.problem m.leads.steps.items m.leads c.self.invariant.1).by_mark) in
    subst (λ (meter : MeterParts). IsTrue c.all_in.result ↔ MeetsCounts meter.problem (touch_of meter.problem meter.node)) c.self.view_is (
      λ met. same.0 (c.all_in.ensures.0 met),
      λ counts. c.all_in.ensures.1 (same.1 counts),
    )
