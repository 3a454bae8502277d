use Rattle.std.proofs.Common.{◌≡◌, ◌↔◌, nat_eq, subst}
use Rattle.std.specs.Prelude.{IsTrue}
use Rattle.cr_row.specs.Rows.{rounds}
use Rattle.cr_model.specs.Callings.{head_of}
use Rattle.cr_model.specs.OneTurn.{touch_of}
use Rattle.cr_path.specs.Walks.{PathParts}
use Rattle.cr_path.proofs.ComingRound.{round_told}
use Rattle.cr_path.proofs.walks.path.Path.comes_round.Goals as goal

pub returns : goal.returns
returns g c =
    let w = c.self.inside in
    let at_end = c.last.ensures.is w.problem.now w.numbers w.steps w.next c.self.invariant.0.ends in
    subst (λ (v : PathParts). IsTrue (nat_eq c.last.result.round 1) ↔ (head_of v.problem (touch_of v.problem v.node) ≡ rounds v.problem.stage)) c.self.view_is
    (round_told w.problem.now w.steps (nat_eq c.last.result.round 1) at_end.round)
