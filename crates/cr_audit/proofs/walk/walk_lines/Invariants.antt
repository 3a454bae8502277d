use Rattle.std.proofs.Common.{◌+◌, ◌≤◌, length}
use Rattle.cr_audit.specs.Dues.{dues}
use Rattle.cr_audit.specs.Stops.{HasPassed}
use Rattle.cr_audit.specs.Touched.{callings, IsWalk}
use Rattle.cr_audit.proofs.walk.walk_lines.Given as goal

-- so many lines are right, and each has two bytes or more
abbrev pub invariant-loop-rest : goal.invariant-loop-rest
invariant-loop-rest l = record {
  passed : HasPassed l.problem l.log l.number (dues l.problem l.walk.due l.walk.path.node.items) l.rest (callings l.walk.touches.keys);
  walk : IsWalk l.problem l.walk;
  few : l.number + l.number + length l.rest ≤ length l.log;
}

abbrev pub decreases-loop-rest : goal.decreases-loop-rest
decreases-loop-rest l = length l.rest
