use Rattle.std.proofs.Common.{◌-◌, ◌<◌, ◌≤◌}
use Rattle.cr_shard.specs.Reads.{FrontMeetsOne}
use Rattle.cr_shard.proofs.overlap.least_overlapped.Given as goal

abbrev pub invariant-loop-high : goal.invariant-loop-high
invariant-loop-high l =
    (l.low < l.high) × (l.high ≤ l.later) × (FrontMeetsOne l.problem l.shards l.later l.low → ⊥) × FrontMeetsOne l.problem l.shards l.later l.high

abbrev pub decreases-loop-high : goal.decreases-loop-high
decreases-loop-high l = l.high - l.low
