use Rattle.std.proofs.Common.{◌≡◌, ◌++◌, drop}
use Rattle.cr_store.specs.Written.{lists, jobs_seen}
use Rattle.cr_shard.proofs.joining.add_jobs.Given as goal

abbrev pub invariant-loop-job : goal.invariant-loop-job
invariant-loop-job l = jobs_seen l.jobs.items ++ lists (drop l.job-index l.more) ≡ jobs_seen l.initial.jobs.items ++ lists l.more
