use Rattle.std.proofs.Common.{◌≡◌, suc, ◌+◌, ap, ◌∙◌, arith}
use Rattle.cr_board.specs.Moves.{given_back, back_below}
use Rattle.cr_board.specs.Rooms.{parts_of}
use Rattle.cr_board.proofs.recalling.give_all_back.Goals as goal

pub loop-worker-preserved : goal.loop-worker-preserved
loop-worker-preserved c = (
  λ o.
      let next : suc c.loop-worker.worker ≡ c.loop-worker.worker + 1 = omega arith in
      c.give_back.ensures.is o ∙ ap (λ b. given_back b c.loop-worker.worker) (c.loop-worker.invariant.0 o) ∙ ap (back_below (parts_of o c.args.state.now)) next,
  c.give_back.ensures.rooms,
  c.give_back.ensures.held ∙ c.loop-worker.invariant.2,
  c.give_back.ensures.lanes ∙ c.loop-worker.invariant.3,
  c.give_back.ensures.resigned ∙ c.loop-worker.invariant.4,
)
