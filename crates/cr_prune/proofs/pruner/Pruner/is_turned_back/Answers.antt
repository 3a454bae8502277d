use Rattle.std.proofs.Common.{◌∙◌, ap}
use Rattle.cr_model.specs.Dead.{turn_free}
use Rattle.cr_prune.specs.Pruners.{PrunerParts}
use Rattle.cr_prune.proofs.Reasons.{turned_told}
use Rattle.cr_prune.proofs.pruner.Pruner.is_turned_back.Goals as goal

pub returns-then-self : goal.returns-then-self
returns-then-self c =
    turned_told c.turns_back.result c.self.inside.prune_limits.turn_free c.args.self.now.problem c.args.walk.now.node
    (c.self.invariant.1.turn_free ∙ ap (λ (p : PrunerParts). turn_free p.problem.query) c.self.view_is) c.if-self.true c.turns_back.ensures
