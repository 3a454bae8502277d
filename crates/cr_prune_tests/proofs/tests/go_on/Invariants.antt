use Rattle.std.proofs.Common.{◌≡◌}
use Rattle.cr_prune_tests.proofs.tests.go_on.Given as goal

abbrev pub invariant-loop-step : goal.invariant-loop-step
invariant-loop-step l = l.walk.problem ≡ l.problem
