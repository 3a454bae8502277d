use Rattle.cr_store.proofs.HandedNodes.{node_more, last_of_nodes}
use Rattle.cr_store.proofs.handing.hand_nodes.Goals as goal

pub hand_node-requires : goal.hand_node-requires
hand_node-requires g c = last_of_nodes c.args.problem.now _ c.args.lines.now.last _ c.loop-done.lines.last _ _ c.loop-done._done c.requires c.loop-done.invariant

pub loop-done-preserved : goal.loop-done-preserved
loop-done-preserved g c =
    node_more c.args.problem.now _ _ _ c.loop-done.lines.rest.now c.loop-done.lines.last c.hand_node.new.lines.rest.now c.hand_node.new.lines.last _ _ c.loop-done._done
    c.loop-done.invariant (c.in_ok-hand_node.ensures c.if-not-branch.false)
