use Rattle.std.proofs.Common.{None, sym, subst}
use Rattle.cr_store.specs.Written.{lists}
use Rattle.cr_trail.specs.Runs.{RunsOn}
use Rattle.cr_shifts.proofs.Whole.{whole_run}
use Rattle.cr_shifts.proofs.shifts.find_in_shifts.Goals as goal

pub returns-clause-run : goal.returns-clause-run
returns-clause-run g c =
    let p = g.F.Finder.finds c.args.finder.now in
    let found = c.args.before.left.found.items in
    let jobs = lists c.args.before.left.jobs.items in
    let now = c.find_all.new.found.items in
    subst (λ left. RunsOn p found jobs None now (lists left)) (sym c.new.ensures.items)
    (whole_run c.sizes_are_sums.ensures.none p found jobs now c.requires c.in_ok-find_all.ensures)
