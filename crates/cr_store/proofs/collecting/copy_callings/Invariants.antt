use Rattle.std.proofs.Common.{◌≡◌, take}
use Rattle.cr_store.proofs.collecting.copy_callings.Given as goal

abbrev pub invariant-loop-calling : goal.invariant-loop-calling
invariant-loop-calling l = l.copy.items ≡ take l.calling-index l.callings
