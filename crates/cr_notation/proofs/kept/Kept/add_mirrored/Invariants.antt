use Rattle.std.proofs.Common.{◌≡◌, ◌-◌, ◌++◌, take, drop, reverse}
use Rattle.cr_notation.specs.Reading.{kept}
use Rattle.cr_notation.proofs.kept.Kept.add_mirrored.Given as goal

abbrev pub invariant-loop-back : goal.invariant-loop-back
invariant-loop-back l = kept l.self ≡ kept ((l.fn.self ++ l.block) ++ take (l.back - 1) (drop 1 (reverse l.block)))
