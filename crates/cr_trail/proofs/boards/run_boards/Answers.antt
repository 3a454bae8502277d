use Rattle.std.proofs.Common.{[], subst, sym}
use Rattle.cr_model.specs.Checkpoints.{CanGoOn}
use Rattle.cr_store.specs.Written.{lists}
use Rattle.cr_trail.specs.Runs.{RunsOn}
use Rattle.cr_trail.proofs.Going.{without_found}
use Rattle.cr_trail.proofs.boards.run_boards.Goals as goal

pub run_on_boards-requires-clause-goes_on : goal.run_on_boards-requires-clause-goes_on
run_on_boards-requires-clause-goes_on g c = subst (λ l. CanGoOn (g.R.Runner.searches c.args.runner.now) [] (lists l.jobs.items)) (sym c.in_ok-before.ensures)
    (without_found (g.R.Runner.searches c.args.runner.now) c.args.left.found.items (lists c.args.left.jobs.items) c.requires.goes_on)

pub returns : goal.returns
returns g c =
    let p = g.R.Runner.searches c.args.runner.now in
    let now = c.in_ok-went.went.left in
    c.runs_follow_one_another.ensures.begun p c.args.left.found.items (lists c.args.left.jobs.items) c.args.turns
    now.found.items (lists now.jobs.items) c.requires.goes_on
    (subst (λ l. RunsOn p l.found.items (lists l.jobs.items) c.args.turns now.found.items (lists now.jobs.items))
    c.in_ok-before.ensures c.in_ok-went.ensures)
