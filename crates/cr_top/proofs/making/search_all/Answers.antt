use Rattle.std.proofs.Common.{sym, subst}
use Rattle.cr_model.specs.Checkpoints.{CanGoOn}
use Rattle.cr_store.specs.Written.{lists}
use Rattle.cr_top.proofs.making.search_all.Goals as goal

pub left_by-requires-clause-goes_on : goal.left_by-requires-clause-goes_on
left_by-requires-clause-goes_on g c = λ κs lives. subst (λ p. CanGoOn p c.in_ok-all.all.found.items (lists c.in_ok-all.all.jobs.items)) (sym c.in_ok-search.ensures.problem) c.in_ok-all.ensures.goes_on

pub returns : goal.returns
returns g c = rw (c.in_ok-search.ensures.problem, c.in_ok-all.ensures.found, c.in_ok-all.ensures.jobs) at c.left_by.ensures
