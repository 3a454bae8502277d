use Rattle.std.proofs.Common.{◌≡◌, ℕ, ◌+◌, ◌<◌, ◌≤◌, false}
use Rattle.cr_node.specs.Overlaps.{item_at}
use Rattle.cr_shard.specs.Reads.{clashes, items_of}
use Rattle.cr_shard.proofs.overlap.none_clashes_next.Given as goal

abbrev pub invariant-loop-index : goal.invariant-loop-index
invariant-loop-index l =
    (1 ≤ l.index) × ((k : ℕ) → k + 1 < l.index → clashes (item_at (items_of l.words) k) (item_at (items_of l.words) (k + 1)) ≡ false)
