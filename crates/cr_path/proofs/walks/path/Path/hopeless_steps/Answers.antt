use Rattle.std.proofs.Common.{sym, subst}
use Rattle.cr_path.specs.Counted.{AreHopeless, IsCounted}
use Rattle.cr_path.specs.Walks.{PathParts}
use Rattle.cr_path.proofs.walks.path.Path.hopeless_steps.Goals as goal

pub returns : goal.returns
returns g c =
    let w = c.self.inside in
    subst (λ (v : PathParts). AreHopeless v.problem v.node c.hopeless_steps.result) c.self.view_is
    (c.hopeless_steps.ensures w.problem.now w.steps (subst (IsCounted w.problem.now w.steps) (sym c.deref.ensures) c.self.invariant.0.counted))
