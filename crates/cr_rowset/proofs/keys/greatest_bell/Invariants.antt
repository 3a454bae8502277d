use Rattle.std.proofs.Common.{◌≡◌, ◌-◌, max}
use Rattle.cr_row.specs.Packed.{bells_of}
use Rattle.cr_rowset.specs.Keys.{greatest, stage_of}
use Rattle.cr_rowset.proofs.keys.greatest_bell.Given as goal

abbrev pub invariant-loop-place : goal.invariant-loop-place
invariant-loop-place l = max l.most (greatest (bells_of (16 - l._place) l.rest)) ≡ stage_of l.key
