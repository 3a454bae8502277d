use Rattle.std.proofs.Common.{take, get_or, sym, ◌∙◌, subst}
use Rattle.std.proofs.lemmas.List.{take_more}
use Rattle.cr_board.specs.Steps.{Ran}
use Rattle.cr_board.specs.declared.event.Event.TheVariants.{Next}
use Rattle.cr_board.proofs.Events.{ran_more, opening_stays}
use Rattle.cr_board.proofs.board.Board.play.Goals as goal

pub loop-event-preserved : goal.loop-event-preserved
loop-event-preserved g c =
    let event = get_or c.args.events.now c.loop-event.event-index (Next 0) in
    let step = c.in_ok-play_one.ensures.step in (
      subst (λ events. Ran c.args.self.now events c.play_one.new.self) (sym (take_more c.args.events.now c.loop-event.event-index (Next 0) c.loop-event-test.true))
          (ran_more c.args.self.now c.loop-event.self c.play_one.new.self (take c.loop-event.event-index c.args.events.now) event c.loop-event.invariant.0 step),
      opening_stays c.loop-event.self c.play_one.new.self event step ∙ c.loop-event.invariant.1,
    )
