-- From the board's partition.
use Rattle.std.proofs.Common.{◌↔◌, ap, ◌∙◌}
use Rattle.cr_model.specs.Nodes.{Covers}
use Rattle.cr_model.specs.Checkpoints.{CanGoOn, nodes_of_jobs}
use Rattle.cr_board.specs.Jobs.{opening_nodes}
use Rattle.cr_store.specs.Written.{lists}
use Rattle.cr_store.proofs.Leaving.{board_went_on, of_board}
use Rattle.cr_store.proofs.collecting.remaining_of.Goals as goal

pub returns-clause-goes_on : goal.returns-clause-goes_on
returns-clause-goes_on c =
    let b = c.args.board in
    of_board b c.problem.result.now c.in_ok-parts.parts.found.items (lists c.in_ok-parts.parts.jobs.items) c.in_ok-parts.ensures.kept
    (c.problem.ensures.is ∙ ap (λ o. o.problem) c.in_ok-parts.ensures.opening) c.in_ok-parts.ensures.found c.in_ok-parts.ensures.jobs
    (λ p. CanGoOn p c.in_ok-left.left.found.items (lists c.in_ok-left.left.jobs.items))
    (c.in_ok-left.ensures.goes_on b.opening.found b.opening.jobs b.spent)

pub returns-clause-covers : goal.returns-clause-covers
returns-clause-covers c = λ calling.
    let b = c.args.board in
    of_board b c.problem.result.now c.in_ok-parts.parts.found.items (lists c.in_ok-parts.parts.jobs.items) c.in_ok-parts.ensures.kept
    (c.problem.ensures.is ∙ ap (λ o. o.problem) c.in_ok-parts.ensures.opening) c.in_ok-parts.ensures.found c.in_ok-parts.ensures.jobs
    (λ p. Covers p c.in_ok-left.left.found.items (nodes_of_jobs (lists c.in_ok-left.left.jobs.items)) calling ↔ Covers p b.opening.found (opening_nodes b.opening) calling)
    (λ way. c.in_ok-left.ensures.covers b.opening.found b.opening.jobs b.spent way calling)

pub returns-clause-size : goal.returns-clause-size
returns-clause-size c =
    let b = c.args.board in
    let way = board_went_on b c.in_ok-parts.parts.found.items (lists c.in_ok-left.left.jobs.items) c.in_ok-parts.ensures.kept
    c.in_ok-parts.ensures.found (c.in_ok-left.ensures.jobs ∙ c.in_ok-parts.ensures.jobs) in
    way.nodes.size
