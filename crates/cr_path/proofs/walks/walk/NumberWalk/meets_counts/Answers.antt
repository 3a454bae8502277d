use Rattle.std.proofs.Common.{◌↔◌, subst}
use Rattle.std.specs.Prelude.{IsTrue}
use Rattle.cr_model.specs.OneTurn.{touch_of}
use Rattle.cr_query.specs.Meeting.{MeetsCounts, MeetsMethodCounts}
use Rattle.cr_path.specs.Walks.{WalkParts}
use Rattle.cr_path.proofs.walks.walk.NumberWalk.meets_counts.Goals as goal

pub returns : goal.returns
returns g c =
    subst (λ (w : WalkParts). IsTrue c.meets_counts.result ↔ (MeetsCounts w.problem (touch_of w.problem w.node) × MeetsMethodCounts w.problem (touch_of w.problem w.node))) c.self.view_is c.meets_counts.ensures
