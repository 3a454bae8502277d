use Rattle.std.proofs.Common.{◌≡◌, ◌++◌, drop}
use Rattle.cr_shard.specs.Reads.{items_of, node_items}
use Rattle.cr_shard.proofs.words.add_nodes.Given as goal

abbrev pub invariant-loop-node : goal.invariant-loop-node
invariant-loop-node l = items_of l.words.items ++ node_items (drop l.node-index l.nodes) ≡ items_of l.initial.words.items ++ node_items l.nodes
