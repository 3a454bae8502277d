use Rattle.std.proofs.Common.{arith}
use Rattle.cr_model.specs.Nodes.{IsValid}
use Rattle.cr_board_tests.proofs.Firsts.{all_more, all_taken}
use Rattle.cr_board_tests.proofs.tests.boards.check_nodes.Goals as goal

pub loop-node-preserved : goal.loop-node-preserved
loop-node-preserved c = all_more (IsValid c.args.problem.now) c.args.nodes.now c.loop-node.node-index c.node-item.result c.loop-node-test.true c.node-item.is c.in_ok-check_node.ensures c.loop-node.invariant

pub returns : goal.returns
returns c = all_taken (IsValid c.args.problem.now) c.args.nodes.now c.loop-node.node-index (omega arith) c.loop-node.invariant
