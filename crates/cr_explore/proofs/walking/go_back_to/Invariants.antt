use Rattle.std.proofs.Common.{◌≡◌, ◌≤◌, take, length}
use Rattle.cr_explore.proofs.walking.go_back_to.Given as goal

abbrev pub invariant-loop-walk : goal.invariant-loop-walk
invariant-loop-walk l = record {
  problem : l.walk.problem ≡ l.initial.walk.problem;
  long : l.number ≤ length l.walk.node;
  front : take l.number l.walk.node ≡ take l.number l.initial.walk.node;
}

abbrev pub decreases-loop-walk : goal.decreases-loop-walk
decreases-loop-walk l = length l.walk.node
