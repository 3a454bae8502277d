use Rattle.std.proofs.Common.{◌≡◌, ◌∙◌, false, sym, ap, subst}
use Rattle.cr_query.specs.Meters.{is_hopeless_by_leads}
use Rattle.cr_path.specs.Living.{is_hopeless}
use Rattle.cr_path.specs.Counted.{IsCounted}
use Rattle.cr_path.specs.Walks.{PathParts}
use Rattle.cr_path.proofs.walks.path.Path.is_hopeless.Goals as goal

pub returns : goal.returns
returns g c =
    let w = c.self.inside in
    let hopes = subst (λ (v : PathParts). is_hopeless_by_leads v.problem v.node ≡ false) (sym c.self.view_is) c.requires in
    c.is_hopeless.ensures w.problem.now w.steps (subst (IsCounted w.problem.now w.steps) (sym c.deref.ensures) c.self.invariant.0.counted) hopes ∙ ap (λ (v : PathParts). is_hopeless v.problem v.node) c.self.view_is
