use Rattle.std.proofs.Common.{All}
use Rattle.cr_model.specs.Callings.{HasSteps}
use Rattle.cr_audit_tests.proofs.tests.lines_of.Given as goal

abbrev pub invariant-loop-node : goal.invariant-loop-node
invariant-loop-node l = All (λ line. HasSteps l.problem line.node) l.all.items
