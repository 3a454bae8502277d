use Rattle.std.proofs.Common.{◌≡◌, ◌+◌, ◌*◌, ◌≤◌, drop, length}
use Rattle.cr_false.specs.Telling.{falling}
use Rattle.cr_false.proofs.common.pairs_that_fall.Given as goal

abbrev pub invariant-loop-index : goal.invariant-loop-index
invariant-loop-index l = record {
  all : l.count + falling (drop l.index l.row) ≡ falling l.row;
  few : l.count ≤ 16 * l.index;
  within : l.index ≤ length l.row;
}
