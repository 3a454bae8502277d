use Rattle.std.proofs.Common.{ℕ, ◌<◌}
use Rattle.cr_store.specs.Faults.{IsShortNode}
use Rattle.cr_store.proofs.checking.first_long.Given as goal

abbrev pub invariant-loop-index : goal.invariant-loop-index
invariant-loop-index l = (i : ℕ) → i < l.index → IsShortNode l.problem l.nodes i
