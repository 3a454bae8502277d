-- the buckets are those of the keys below the place
use Rattle.std.proofs.Common.{◌≡◌, ◌-◌, ◌≤◌, length}
use Rattle.cr_rowset.specs.Chains.{IsChained}
use Rattle.cr_rowset.proofs.stack.unlink.Given as goal

abbrev pub invariant-loop-place : goal.invariant-loop-place
invariant-loop-place l = record {
  kept : IsChained l.shift l.buckets l.before l.keys l.place;
  counted : length l.buckets ≡ length l.initial.buckets;
  low : l.left ≤ l.place;
  high : l.place ≤ l.len;
}

abbrev pub decreases-loop-place : goal.decreases-loop-place
decreases-loop-place l = l.place - l.left
