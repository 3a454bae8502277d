use Rattle.std.proofs.Common.{◌≡◌, ◌≤◌, take, length}
use Rattle.cr_path.proofs.walks.path.Path.go_back_to.Given as goal

abbrev pub invariant-loop-self : goal.invariant-loop-self
invariant-loop-self g l = record {
  problem : l.self.problem ≡ l.initial.self.problem;
  numbers : l.self.numbers ≡ l.initial.self.numbers;
  long : l.number ≤ length l.self.node;
  front : take l.number l.self.node ≡ take l.number l.initial.self.node;
}

abbrev pub decreases-loop-self : goal.decreases-loop-self
decreases-loop-self g l = length l.self.node
