use Rattle.std.proofs.Common.{◌≡◌}
use Rattle.cr_path_tests.proofs.walk.visit_all.Given as goal

abbrev pub invariant-loop : goal.invariant-loop
invariant-loop l = record {
  walk : l.walk.problem ≡ l.problem;
  other : l.other.problem ≡ l.problem;
}
