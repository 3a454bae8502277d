use Rattle.std.proofs.Common.{◌≡◌, ℕ, ◌+◌, ◌<◌, ◌≤◌, false}
use Rattle.cr_node.specs.Overlaps.{begins, item_at, items_of}
use Rattle.cr_node.proofs.independence.none_begins_next.Given as goal

abbrev pub invariant-loop-index : goal.invariant-loop-index
invariant-loop-index l =
    (1 ≤ l.index) × ((k : ℕ) → k + 1 < l.index → begins (item_at (items_of l.words) k) (item_at (items_of l.words) (k + 1)) ≡ false)
