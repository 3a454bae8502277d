use Rattle.std.proofs.Common.{◌↔◌, subst}
use Rattle.std.specs.Prelude.{IsTrue}
use Rattle.cr_model.specs.LeastRotations.{IsLeastRotation}
use Rattle.cr_prune.specs.Walks.{WalkParts}
use Rattle.cr_prune.proofs.walk.Walk.is_least.Goals as goal

pub returns : goal.returns
returns c = subst (λ (w : WalkParts). IsTrue c.is_least.result ↔ IsLeastRotation w.node) c.self.view_is c.is_least.ensures
