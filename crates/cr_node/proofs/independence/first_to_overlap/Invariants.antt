use Rattle.std.proofs.Common.{◌-◌, ◌<◌, ◌≤◌, length}
use Rattle.cr_node.specs.Overlaps.{items_of, ApartBelow}
use Rattle.cr_node.proofs.independence.first_to_overlap.Given as goal

abbrev pub invariant-loop-high : goal.invariant-loop-high
invariant-loop-high l =
    (l.low < l.high) × (l.high ≤ length l.words) × ApartBelow (items_of l.words) l.low × (ApartBelow (items_of l.words) l.high → ⊥)

abbrev pub decreases-loop-high : goal.decreases-loop-high
decreases-loop-high l = l.high - l.low
