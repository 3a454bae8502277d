use Rattle.cr_node.specs.Overlaps.{item_at, items_of, TellsLeast}
use Rattle.cr_node.proofs.independence.least_overlapped.Given as goal

abbrev pub invariant-loop-earlier : goal.invariant-loop-earlier
invariant-loop-earlier l = TellsLeast (items_of l.words) (item_at (items_of l.words) l.later) l.earlier l.least
