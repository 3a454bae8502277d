use Rattle.std.proofs.Common.{◌≡◌, ◌<◌, ◌++◌, length, All}
use Rattle.cr_model.specs.Checkpoints.{nodes_of_jobs}
use Rattle.cr_store.specs.Written.{lists}
use Rattle.cr_shifts.proofs.shifts.cut.Given as goal

abbrev pub invariant-loop-left : goal.invariant-loop-left
invariant-loop-left l = record {
  some : 0 < length l.job.items;
  all : nodes_of_jobs (lists l.jobs.items) ++ l.job.items ≡ nodes_of_jobs (lists l.initial.jobs.items) ++ l.fn.nodes.items;
  filled : All (λ job. 0 < length job) (lists l.jobs.items);
}

abbrev pub decreases-loop-left : goal.decreases-loop-left
decreases-loop-left l = length l.job.items
