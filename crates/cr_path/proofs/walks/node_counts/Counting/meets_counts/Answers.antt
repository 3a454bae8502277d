use Rattle.std.proofs.Common.{◌↔◌, subst}
use Rattle.std.specs.Prelude.{IsTrue}
use Rattle.cr_model.specs.OneTurn.{touch_of}
use Rattle.cr_query.specs.Meeting.{MeetsCounts, MeetsMethodCounts}
use Rattle.cr_query.specs.Meters.{MeterParts}
use Rattle.cr_path.specs.Counted.{IsMeterOf}
use Rattle.cr_path.proofs.walks.node_counts.Counting.meets_counts.Goals as goal

pub returns-in-Some : goal.returns-in-Some
returns-in-Some c p node counted =
    subst (λ (m : MeterParts). IsTrue c.meets_counts.result ↔ (MeetsCounts m.problem (touch_of m.problem m.node) × MeetsMethodCounts m.problem (touch_of m.problem m.node)))
    (subst (IsMeterOf p node) c.in-Some.is counted.meter) c.meets_counts.ensures
