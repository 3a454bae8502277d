use Rattle.std.proofs.Common.{◌≡◌, take}
use Rattle.cr_board_tests.proofs.tests.node_lists.same_nodes.Given as goal

abbrev pub invariant-loop-index : goal.invariant-loop-index
invariant-loop-index l = take l.index l.a ≡ take l.index l.b
