use Rattle.std.proofs.Common.{◌≡◌}
use Rattle.cr_prune_tests.proofs.tests.trees.visit_all.Given as goal

abbrev pub invariant-loop : goal.invariant-loop
invariant-loop l = l.walk.problem ≡ l.problem
