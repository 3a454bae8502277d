use Rattle.std.proofs.Common.{◌≡◌, ◌++◌, drop}
use Rattle.cr_shard.specs.Deals.{nodes_seen}
use Rattle.cr_shard.proofs.cut.add_nodes.Given as goal

abbrev pub invariant-loop-node : goal.invariant-loop-node
invariant-loop-node l = nodes_seen l.nodes.items ++ drop l.node-index l.job ≡ nodes_seen l.initial.nodes.items ++ l.job
