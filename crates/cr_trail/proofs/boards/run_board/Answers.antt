use Rattle.std.proofs.Common.{◌≡◌, ◌≤◌, [], ◌∙◌, ap, arith, Some}
use Rattle.cr_board.specs.Jobs.{opening_from}
use Rattle.cr_run.specs.Runs.{IsRun}
use Rattle.cr_store.specs.Written.{lists}
use Rattle.cr_trail.proofs.Going.{keeps_budget, board_ran}
use Rattle.cr_trail.proofs.boards.run_board.Goals as goal

pub overflow_cast-used : goal.overflow_cast-used
overflow_cast-used g c =
    let ran : IsRun c.new-opening.result c.in_ok-board.board = c.requires.runs _ _ c.in_ok-board.ensures in
    let few : c.in_ok-board.board.spent ≤ c.args.turns =
    keeps_budget c.in_ok-board.board c.spent-used.ensures.kept c.journals_tell_boards.ensures.budget c.args.turns (ap (λ o. o.budget) (ran.opening ∙ c.new-opening.ensures)) in
    omega (arith, few, c.spent-used.ensures.is, c.ranges.turns.fits)

pub returns : goal.returns
returns g c =
    let ran : IsRun c.new-opening.result c.in_ok-board.board = c.requires.runs _ _ c.in_ok-board.ensures in
    let is_opened : c.in_ok-board.board.opening ≡ opening_from (g.R.Runner.searches c.args.runner.now) [] (lists c.args.jobs.items) (Some c.args.turns) c.args.workers =
    ran.opening ∙ c.new-opening.ensures
    ∙ ap (λ p. opening_from p c.new.result.items (lists c.args.jobs.items) (Some c.args.turns) c.args.workers) (c.in_ok-copy.ensures ∙ c.problem.ensures)
    ∙ ap (λ f. opening_from (g.R.Runner.searches c.args.runner.now) f (lists c.args.jobs.items) (Some c.args.turns) c.args.workers) c.new.ensures.items in
    let few : c.in_ok-board.board.spent ≤ c.args.turns =
    keeps_budget c.in_ok-board.board c.spent-used.ensures.kept c.journals_tell_boards.ensures.budget c.args.turns (ap (λ o. o.budget) is_opened) in
    board_ran _ _ _ _ c.in_ok-board.board _ _ _ c.spent-used.ensures.kept ran.ended (omega (arith, few, c.spent-used.ensures.is)) c.spent-used.ensures.is
    c.in_ok-parts.ensures.found c.in_ok-parts.ensures.jobs is_opened
