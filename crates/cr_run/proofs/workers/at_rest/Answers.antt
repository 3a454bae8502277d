use Rattle.std.proofs.Common.{◌≡◌, [], false, get_or, flat_map, ap, ◌∙◌}
use Rattle.std.proofs.lemmas.Result.{IfOk-weaker}
use Rattle.cr_board.specs.Boards.{held_jobs}
use Rattle.cr_board.specs.declared.event.Event.TheVariants.{Recall}
use Rattle.cr_run.proofs.workers.at_rest.Goals as goal

pub returns-then-not-same_opening-clause-idle : goal.returns-then-not-same_opening-clause-idle
returns-then-not-same_opening-clause-idle c =
    IfOk-weaker c.open.result _ (λ b. flat_map held_jobs b.held ≡ []) (λ b is. ap (λ b. flat_map held_jobs b.held) is ∙ c.boards_at_rest.ensures.opened_idle c.args.opening) c.open.ensures

pub returns-then-not-same_opening-clause-stays : goal.returns-then-not-same_opening-clause-stays
returns-then-not-same_opening-clause-stays c =
    IfOk-weaker c.open.result _ (λ b. get_or b.resigned 0 false ≡ false) (λ b is. ap (λ b. get_or b.resigned 0 false) is ∙ c.boards_at_rest.ensures.opened_stays c.args.opening) c.open.ensures

pub returns-clause-opening : goal.returns-clause-opening
returns-clause-opening c =
    c.events_only_append.ensures.opening c.args.board c.recall_all.new.self Recall c.recall_all.ensures
    ∙ c.same_opening.ensures.is.0 c.if-not-same_opening.false
