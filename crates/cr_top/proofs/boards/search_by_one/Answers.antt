use Rattle.std.proofs.Common.{[], subst, sym}
use Rattle.cr_model.specs.Checkpoints.{CanGoOn}
use Rattle.cr_explore.specs.Searches.{searched}
use Rattle.cr_store.specs.Written.{lists}
use Rattle.cr_trail.specs.Runs.{RunsOn}
use Rattle.cr_trail.proofs.Going.{without_found}
use Rattle.cr_top.proofs.boards.search_by_one.Goals as goal

pub search_on_by_one-requires-clause-goes_on : goal.search_on_by_one-requires-clause-goes_on
search_on_by_one-requires-clause-goes_on g c = λ κs lives. subst (λ l. CanGoOn (searched c.args.search.now) [] (lists l.jobs.items)) (sym c.in_ok-before.ensures)
    (without_found (searched c.args.search.now) c.args.left.found.items (lists c.args.left.jobs.items) c.requires)

pub returns : goal.returns
returns g c =
    let p = searched c.args.search.now in
    let later = c.in_ok-end.end.left in
    c.runs_follow_one_another.ensures.begun p c.args.left.found.items (lists c.args.left.jobs.items) c.args.turns later.found.items (lists later.jobs.items) c.requires
    (subst (λ l. RunsOn p l.found.items (lists l.jobs.items) c.args.turns later.found.items (lists later.jobs.items)) c.in_ok-before.ensures c.in_ok-end.ensures)
