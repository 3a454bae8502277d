use Rattle.std.proofs.Common.{refl, ap, ◌∙◌}
use Rattle.cr_model.specs.Checkpoints.{CanGoOn}
use Rattle.cr_board.specs.Boards.{board_jobs}
use Rattle.cr_store.proofs.Leaving.{of_board}
use Rattle.cr_store.proofs.collecting.found_in_order.Goals as goal

pub returns-clause-goes_on : goal.returns-clause-goes_on
returns-clause-goes_on c =
    let b = c.args.board.now in
    of_board b c.problem.result.now c.in_ok-copy.copy.items (board_jobs b) c.found.ensures.kept
    (c.problem.ensures.is ∙ ap (λ o. o.problem) c.opening.ensures.is) (c.in_ok-copy.ensures ∙ c.found.ensures.is) refl
    (λ p. CanGoOn p c.in_ok-found.found.items (board_jobs b))
    (c.in_ok-found.ensures.goes_on b.opening.found b.opening.jobs (board_jobs b) b.spent)
