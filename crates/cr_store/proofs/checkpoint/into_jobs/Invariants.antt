use Rattle.cr_store.specs.Written.{lists}
use Rattle.cr_store.proofs.Jobs.{AreLastJobs}
use Rattle.cr_store.proofs.checkpoint.into_jobs.Given as goal

-- the last jobs, from the last on, have the nodes that are not left
abbrev pub invariant-loop-index : goal.invariant-loop-index
invariant-loop-index l = AreLastJobs l.sizes l.fn.nodes.items l.index l.left.items (lists l.jobs.items)

abbrev pub decreases-loop-index : goal.decreases-loop-index
decreases-loop-index l = l.index
