use Rattle.std.proofs.Common.{◌≡◌}
use Rattle.cr_path_tests.proofs.walk.goes_to_all.Given as goal

abbrev pub invariant-loop-node : goal.invariant-loop-node
invariant-loop-node l = l.walk.problem ≡ l.problem
