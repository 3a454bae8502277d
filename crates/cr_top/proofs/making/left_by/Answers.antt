use Rattle.std.proofs.Common.{[], sym, subst}
use Rattle.cr_model.specs.Checkpoints.{CanGoOn}
use Rattle.cr_explore.specs.Searches.{searched}
use Rattle.cr_store.specs.Written.{lists}
use Rattle.cr_trail.proofs.Going.{without_found}
use Rattle.cr_top.proofs.making.left_by.Goals as goal

pub run_by-requires-clause-goes_on : goal.run_by-requires-clause-goes_on
run_by-requires-clause-goes_on g c = λ κs lives. subst (λ l. CanGoOn (searched c.args.search.now) [] (lists l.jobs.items)) (sym c.in_ok-before.ensures)
    (without_found (searched c.args.search.now) c.args.left.found.items (lists c.args.left.jobs.items) c.requires.goes_on)
