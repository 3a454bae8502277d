use Rattle.std.proofs.Common.{◌<◌, ◌≤◌, length, All}
use Rattle.cr_model.specs.Checkpoints.{nodes_of_jobs}
use Rattle.cr_model.specs.Sizes.{most_rows, size_of_all}
use Rattle.cr_store.specs.Written.{lists}
use Rattle.cr_shifts.specs.Shifts.{GoesOn}
use Rattle.cr_shifts.proofs.shifts.find_all.Given as goal

abbrev pub invariant-loop-alloc : goal.invariant-loop-alloc
invariant-loop-alloc g l = record {
  turns : 0 < l.turns;
  few : l.turns ≤ 1048576;
  filled : All (λ job. 0 < length job) (lists l.left.items);
  on : GoesOn (g.F.Finder.finds l.finder) (nodes_of_jobs (lists l.fn.jobs.items)) l.initial.found.items l.found.items (nodes_of_jobs (lists l.left.items));
}

abbrev pub decreases-loop-alloc : goal.decreases-loop-alloc
decreases-loop-alloc g l = size_of_all (g.F.Finder.finds l.finder) most_rows (nodes_of_jobs (lists l.left.items))
