use Rattle.std.proofs.Common.{subst}
use Rattle.cr_path.specs.Ends.{IsEnd}
use Rattle.cr_path.specs.Walks.{PathParts}
use Rattle.cr_path.proofs.walks.path.Path.last_end.Goals as goal

pub returns : goal.returns
returns g c =
    let w = c.self.inside in
    subst (λ (v : PathParts). IsEnd v.problem v.numbers v.node c.last.result) c.self.view_is (c.last.ensures.is w.problem.now w.numbers w.steps w.next c.self.invariant.0.ends)
