-- the chain from the mark on has every place where the key can stand
use Rattle.cr_rowset.specs.Chains.{Seeks}
use Rattle.cr_rowset.proofs.stack.place_of.Given as goal

abbrev pub invariant-loop-mark : goal.invariant-loop-mark
invariant-loop-mark l = Seeks l.keys l.before l.len l.mark l.key

abbrev pub decreases-loop-mark : goal.decreases-loop-mark
decreases-loop-mark l = l.mark
