use Rattle.std.proofs.Common.{◌≡◌, take}
use Rattle.cr_model.proofs.copies.same_patterns.Given as goal

abbrev pub invariant-loop-index : goal.invariant-loop-index
invariant-loop-index l = take l.index l.patterns ≡ take l.index l.others
