use Rattle.std.proofs.Common.{ℕ, ◌<◌}
use Rattle.cr_store.specs.Faults.{Follows}
use Rattle.cr_store.proofs.checking.first_out_of_order.Given as goal

abbrev pub invariant-loop-index : goal.invariant-loop-index
invariant-loop-index l = (i : ℕ) → i < l.index → Follows l.problem l.found i
