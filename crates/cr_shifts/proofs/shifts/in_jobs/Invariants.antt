use Rattle.std.proofs.Common.{◌≡◌, ◌<◌, length, All}
use Rattle.cr_model.specs.Checkpoints.{nodes_of_jobs}
use Rattle.cr_store.specs.Written.{lists}
use Rattle.cr_shifts.proofs.shifts.in_jobs.Given as goal

abbrev pub invariant-loop-nodes : goal.invariant-loop-nodes
invariant-loop-nodes l = record {
  all : nodes_of_jobs (lists l.jobs.items) ≡ nodes_of_jobs (lists l.yielded);
  filled : All (λ job. 0 < length job) (lists l.jobs.items);
  later : All (λ job. 0 < length job) (lists l.nodes-iterator.rest.items);
}
