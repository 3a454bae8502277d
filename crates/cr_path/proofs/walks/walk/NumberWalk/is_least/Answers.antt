use Rattle.std.proofs.Common.{◌↔◌, subst}
use Rattle.std.specs.Prelude.{IsTrue}
use Rattle.cr_model.specs.LeastRotations.{IsLeastRotation}
use Rattle.cr_path.specs.Walks.{WalkParts}
use Rattle.cr_path.proofs.walks.walk.NumberWalk.is_least.Goals as goal

pub returns : goal.returns
returns g c = subst (λ (w : WalkParts). IsTrue c.is_least.result ↔ IsLeastRotation w.node) c.self.view_is c.is_least.ensures
