use Rattle.std.proofs.Common.{ℕ, List}
use Rattle.cr_io.specs.Grown.{joined}
use Rattle.cr_store.specs.Written.{lists}
use Rattle.cr_trail.specs.Runs.{size_of_jobs}
use Rattle.cr_trail.specs.Writing.{IsReady, WroteSoFar}
use Rattle.cr_trail.proofs.trail.write_trail.Given as goal

-- the trail so far was written, and the next checkpoint is ready
abbrev pub invariant-loop-now : goal.invariant-loop-now
invariant-loop-now g l = (now : List (List ℕ))
    × IsReady (g.R.Runner.searches l.runner) l.problem_bytes l.ready.now.left.found.items (lists l.ready.now.left.jobs.items) (joined l.ready.pieces.items) now
    × WroteSoFar g.K.Sink.grew g.K.Sink.faults l.initial.sink l.sink (g.R.Runner.searches l.runner) l.problem_bytes
    l.fn.left.found.items (lists l.fn.left.jobs.items) l.every now (lists l.ready.now.left.jobs.items)

abbrev pub decreases-loop-now : goal.decreases-loop-now
decreases-loop-now g l = size_of_jobs (g.R.Runner.searches l.runner) (lists l.ready.now.left.jobs.items)
