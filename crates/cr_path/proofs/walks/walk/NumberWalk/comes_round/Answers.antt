use Rattle.std.proofs.Common.{◌≡◌, ◌↔◌, subst}
use Rattle.std.specs.Prelude.{IsTrue}
use Rattle.cr_row.specs.Rows.{rounds}
use Rattle.cr_model.specs.Callings.{head_of}
use Rattle.cr_model.specs.OneTurn.{touch_of}
use Rattle.cr_path.specs.Walks.{WalkParts}
use Rattle.cr_path.proofs.walks.walk.NumberWalk.comes_round.Goals as goal

pub returns : goal.returns
returns g c =
    subst (λ (w : WalkParts). IsTrue c.comes_round.result ↔ (head_of w.problem (touch_of w.problem w.node) ≡ rounds w.problem.stage)) c.self.view_is c.comes_round.ensures
