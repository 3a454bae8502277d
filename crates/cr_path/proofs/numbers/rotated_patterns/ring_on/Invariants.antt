use Rattle.std.proofs.Common.{◌+◌, ◌*◌, ◌≤◌, ℕ, List, ◌++◌, take}
use Rattle.cr_path.specs.Best.{IsWay}
use Rattle.cr_path.specs.Numbers.{StartsHead}
use Rattle.cr_path.proofs.numbers.rotated_patterns.ring_on.Given as goal

abbrev pub invariant-loop-step : goal.invariant-loop-step
invariant-loop-step l = record {
  base : StartsHead l.numbers l.way.base;
  number : l.way.number ≤ l.fn.from.number + 255 * l.step-index;
  way : (word : List ℕ) → IsWay l.problem l.numbers l.pattern.cells word l.fn.from → IsWay l.problem l.numbers l.pattern.cells (word ++ take l.step-index l.steps) l.way;
}
