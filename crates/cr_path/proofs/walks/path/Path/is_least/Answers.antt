use Rattle.std.proofs.Common.{◌↔◌, subst}
use Rattle.std.specs.Prelude.{IsTrue}
use Rattle.cr_model.specs.LeastRotations.{IsLeastRotation}
use Rattle.cr_path.specs.Walks.{PathParts}
use Rattle.cr_path.proofs.walks.path.Path.is_least.Goals as goal

pub returns : goal.returns
returns g c = subst (λ (w : PathParts). IsTrue c.is_least.result ↔ IsLeastRotation w.node) c.self.view_is c.is_least.ensures
