use Rattle.std.proofs.Common.{◌≡◌, ◌+◌, ◌≤◌, drop, length}
use Rattle.cr_false.specs.Telling.{lower}
use Rattle.cr_false.proofs.common.lower_behind.Given as goal

abbrev pub invariant-loop-other : goal.invariant-loop-other
invariant-loop-other l = record {
  all : l.count + lower l.bell (drop l.other l.row) ≡ lower l.bell (drop (l.index + 1) l.row);
  few : l.count ≤ l.other;
  within : l.other ≤ length l.row;
}
