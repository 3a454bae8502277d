use Rattle.std.proofs.Common.{take, All}
use Rattle.cr_model.specs.Nodes.{IsValid}
use Rattle.cr_board_tests.proofs.tests.boards.check_nodes.Given as goal

abbrev pub invariant-loop-node : goal.invariant-loop-node
invariant-loop-node l = All (IsValid l.problem) (take l.node-index l.nodes)
