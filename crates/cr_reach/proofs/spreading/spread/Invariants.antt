use Rattle.std.proofs.Common.{◌≡◌, ◌-◌, take, drop}
use Rattle.cr_reach.specs.Spreading.{pushed, products}
use Rattle.cr_reach.proofs.spreading.spread.Given as goal

abbrev pub invariant-loop-place : goal.invariant-loop-place
invariant-loop-place l = l.rows ≡ pushed l.initial.rows (products l.inverses (take (l.place - l.start) (drop l.start l.initial.rows.rows)))
