use Rattle.std.proofs.Common.{◌≡◌, take}
use Rattle.cr_model.proofs.fronts.common_front.Given as goal

abbrev pub invariant-loop-index : goal.invariant-loop-index
invariant-loop-index l = take l.index l.node ≡ take l.index l.other
