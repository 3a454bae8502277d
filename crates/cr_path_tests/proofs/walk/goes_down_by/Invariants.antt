use Rattle.std.proofs.Common.{◌≡◌}
use Rattle.cr_path_tests.proofs.walk.goes_down_by.Given as goal

abbrev pub invariant-loop-step : goal.invariant-loop-step
invariant-loop-step l = l.walk.problem ≡ l.problem
