use Rattle.std.proofs.Common.{◌≡◌, ◌++◌, drop}
use Rattle.cr_model.specs.Checkpoints.{nodes_of_jobs}
use Rattle.cr_store.specs.Written.{lists}
use Rattle.cr_shard.specs.Reads.{items_of, node_items}
use Rattle.cr_shard.proofs.words.add_jobs.Given as goal

abbrev pub invariant-loop-job : goal.invariant-loop-job
invariant-loop-job l =
    items_of l.words.items ++ node_items (nodes_of_jobs (lists (drop l.job-index l.jobs)))
    ≡ items_of l.initial.words.items ++ node_items (nodes_of_jobs (lists l.jobs))
