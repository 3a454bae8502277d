use Rattle.std.proofs.Common.{◌≡◌, ◌++◌, drop}
use Rattle.cr_model.specs.Checkpoints.{nodes_of_jobs}
use Rattle.cr_store.specs.Written.{lists}
use Rattle.cr_shard.specs.Deals.{nodes_seen}
use Rattle.cr_shard.proofs.cut.all_nodes.Given as goal

abbrev pub invariant-loop-job : goal.invariant-loop-job
invariant-loop-job l = nodes_seen l.nodes.items ++ nodes_of_jobs (lists (drop l.job-index l.jobs)) ≡ nodes_of_jobs (lists l.jobs)
