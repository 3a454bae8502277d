use Rattle.std.proofs.Common.{◌≡◌, ◌%◌, ◌-◌, ◌++◌, length, drop}
use Rattle.cr_shard.specs.Deals.{dealt_from, dealt_nodes, nodes_seen}
use Rattle.cr_shard.proofs.cut.nodes_of.Given as goal

abbrev pub invariant-loop-place : goal.invariant-loop-place
invariant-loop-place l = (l.place % l.into ≡ l.shard)
    × (nodes_seen l.dealt.items ++ dealt_from l.into l.shard l.place (drop l.place (nodes_seen l.nodes)) ≡ dealt_nodes l.into l.shard (nodes_seen l.nodes))

abbrev pub decreases-loop-place : goal.decreases-loop-place
decreases-loop-place l = length l.nodes - l.place
