use Rattle.std.proofs.Common.{◌≡◌, ◌-◌, ◌≤◌, ◌++◌, length, replicate}
use Rattle.cr_reach.proofs.table.fill.Given as goal

abbrev pub invariant-loop-levels : goal.invariant-loop-levels
invariant-loop-levels l = record {
  is : l.levels.items ≡ l.fn.levels.items ++ replicate (length l.levels.items - length l.fn.levels.items) l.level;
  low : length l.fn.levels.items ≤ length l.levels.items;
  high : length l.levels.items ≤ l.len;
}

abbrev pub decreases-loop-levels : goal.decreases-loop-levels
decreases-loop-levels l = l.len - length l.levels.items
