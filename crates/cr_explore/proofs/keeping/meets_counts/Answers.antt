use Rattle.std.proofs.Common.{◌↔◌, IsTrue, subst}
use Rattle.cr_model.specs.Problems.{ProblemParts}
use Rattle.cr_model.specs.OneTurn.{touch_of}
use Rattle.cr_query.specs.Meeting.{MeetsCounts, MeetsMethodCounts}
use Rattle.cr_explore.proofs.keeping.meets_counts.Goals as goal

pub returns : goal.returns
returns g c =
    subst (λ (p : ProblemParts). IsTrue c.meets_counts.result ↔ (MeetsCounts p (touch_of p (g.W.Standing.node_of c.args.walk.now)) × MeetsMethodCounts p (touch_of p (g.W.Standing.node_of c.args.walk.now))))
    c.requires c.meets_counts.ensures
