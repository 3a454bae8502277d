use Rattle.std.proofs.Common.{◌-◌, ◌≤◌}
use Rattle.cr_rowset.proofs.stack.shift_for.Given as goal

abbrev pub invariant-loop-shift : goal.invariant-loop-shift
invariant-loop-shift l = (30 ≤ l.shift) × (l.shift ≤ 60)

abbrev pub decreases-loop-shift : goal.decreases-loop-shift
decreases-loop-shift l = l.shift - 30
