use Rattle.std.proofs.Common.{ℕ, ◌-◌, length}
use Rattle.cr_trail.specs.Lasts.{IsReadTo}
use Rattle.cr_trail.proofs.last.last_block.Given as goal

abbrev pub invariant-loop-place : goal.invariant-loop-place
invariant-loop-place l = IsReadTo l.text l.at l.last

abbrev pub decreases-loop-place : goal.decreases-loop-place
decreases-loop-place l = length l.text - l.at
