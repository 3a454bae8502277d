use Rattle.std.proofs.Common.{◌≡◌, ◌++◌, take}
use Rattle.cr_notation.specs.Reading.{kept}
use Rattle.cr_notation.proofs.kept.Kept.add_all.Given as goal

abbrev pub invariant-loop-change : goal.invariant-loop-change
invariant-loop-change l = kept l.self ≡ kept (l.fn.self ++ take l.change-index l.block)
