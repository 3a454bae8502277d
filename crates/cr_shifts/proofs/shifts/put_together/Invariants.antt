use Rattle.std.proofs.Common.{◌≡◌, ◌<◌, ◌++◌, length, All}
use Rattle.cr_model.specs.Checkpoints.{nodes_of_jobs}
use Rattle.cr_store.specs.Written.{lists}
use Rattle.cr_shifts.specs.Shifts.{found_by, left_by}
use Rattle.cr_shifts.proofs.shifts.put_together.Given as goal

abbrev pub invariant-loop-one : goal.invariant-loop-one
invariant-loop-one l = record {
  found : l.found.items ≡ l.initial.found.items ++ found_by l.yielded;
  left : nodes_of_jobs (lists l.left.items) ≡ left_by l.yielded;
  filled : All (λ job. 0 < length job) (lists l.left.items);
}
