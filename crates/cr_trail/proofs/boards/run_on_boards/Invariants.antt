use Rattle.cr_store.specs.Written.{lists}
use Rattle.cr_trail.specs.Runs.{OnTheWay, size_of_jobs}
use Rattle.cr_trail.proofs.boards.run_on_boards.Given as goal

abbrev pub invariant-loop-alloc : goal.invariant-loop-alloc
invariant-loop-alloc g l = OnTheWay (g.R.Runner.searches l.runner) l.fn.before.left.found.items (lists l.fn.before.left.jobs.items) l.fn.turns
    l.found.items (lists l.jobs.items) l.allowed

abbrev pub decreases-loop-alloc : goal.decreases-loop-alloc
decreases-loop-alloc g l = size_of_jobs (g.R.Runner.searches l.runner) (lists l.jobs.items)
