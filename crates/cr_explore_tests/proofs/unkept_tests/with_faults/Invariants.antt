use Rattle.std.proofs.Common.{All}
use Rattle.cr_model.specs.Callings.{HasSteps}
use Rattle.cr_explore_tests.proofs.unkept_tests.with_faults.Given as goal

abbrev pub invariant-loop-touch : goal.invariant-loop-touch
invariant-loop-touch l = All (HasSteps l.problem) l.touches.items
