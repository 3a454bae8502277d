use Rattle.std.proofs.Common.{subst}
use Rattle.cr_model.specs.Sizes.{most_rows}
use Rattle.cr_path.specs.Living.{IsFirstUncut}
use Rattle.cr_path.specs.Walks.{PathParts}
use Rattle.cr_path.proofs.Uncut.{few_steps, first_uncut_is}
use Rattle.cr_path.proofs.walks.path.Path.first_uncut.Goals as goal

pub returns : goal.returns
returns g c =
    let w = c.self.inside in
    subst (λ (v : PathParts). IsFirstUncut v.problem most_rows v.node v.next c.least.result) c.self.view_is
    (first_uncut_is w.problem.now w.steps w.next c.last.result.left (few_steps w.problem.now c.self.invariant.0.sound)
    (c.last.ensures.left w.problem.now w.numbers w.steps w.next c.self.invariant.0.ends) c.least.result c.least.ensures.none c.least.ensures.some)
