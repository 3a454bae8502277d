use Rattle.std.proofs.Common.{◌≡◌, ◌≤◌, ◌*◌, take}
use Rattle.std.specs.Prelude.{sum}
use Rattle.cr_false.proofs.step_pairs.total.Given as goal

abbrev pub invariant-loop-number : goal.invariant-loop-number
invariant-loop-number l = record {
  is : l.total ≡ sum (take l.number-index l.numbers);
  low : l.total ≤ 4294967295 * l.number-index;
}
