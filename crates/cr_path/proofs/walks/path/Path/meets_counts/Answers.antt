use Rattle.std.proofs.Common.{◌↔◌, sym, subst}
use Rattle.std.specs.Prelude.{IsTrue}
use Rattle.cr_model.specs.OneTurn.{touch_of}
use Rattle.cr_query.specs.Meeting.{MeetsCounts, MeetsMethodCounts}
use Rattle.cr_path.specs.Counted.{IsCounted}
use Rattle.cr_path.specs.Walks.{PathParts}
use Rattle.cr_path.proofs.walks.path.Path.meets_counts.Goals as goal

pub returns : goal.returns
returns g c =
    subst (λ (w : PathParts). IsTrue c.meets_counts.result ↔ (MeetsCounts w.problem (touch_of w.problem w.node) × MeetsMethodCounts w.problem (touch_of w.problem w.node))) c.self.view_is
    (c.meets_counts.ensures c.self.inside.problem.now c.self.inside.steps (subst (IsCounted c.self.inside.problem.now c.self.inside.steps) (sym c.deref.ensures) c.self.invariant.0.counted))
