use Rattle.std.proofs.Common.{ℕ, ◌-◌, length}
use Rattle.cr_store.specs.Blocks.{Sizing}
use Rattle.cr_store.proofs.blocks.size_line.Given as goal

abbrev pub invariant-loop-place : goal.invariant-loop-place
invariant-loop-place l = Sizing l.text l.place l.size

abbrev pub decreases-loop-place : goal.decreases-loop-place
decreases-loop-place l = length l.text - l.place
