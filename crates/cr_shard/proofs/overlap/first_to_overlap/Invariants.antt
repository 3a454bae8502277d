use Rattle.std.proofs.Common.{◌-◌, ◌<◌, ◌≤◌, length, take}
use Rattle.cr_shard.specs.Reads.{all_items, NoneMeet, FrontMeets}
use Rattle.cr_shard.proofs.overlap.first_to_overlap.Given as goal

abbrev pub invariant-loop-high : goal.invariant-loop-high
invariant-loop-high l =
    (l.low < l.high) × (l.high ≤ length l.shards) × NoneMeet (all_items l.problem (take l.low l.shards)) × FrontMeets l.problem l.shards l.high

abbrev pub decreases-loop-high : goal.decreases-loop-high
decreases-loop-high l = l.high - l.low
