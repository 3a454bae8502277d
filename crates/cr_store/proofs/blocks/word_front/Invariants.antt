use Rattle.std.proofs.Common.{◌≡◌, ℕ, ◌-◌, ◌≤◌, length, take}
use Rattle.std.specs.Prelude.{codes}
use Rattle.cr_store.proofs.blocks.word_front.Given as goal

abbrev pub invariant-loop-known : goal.invariant-loop-known
invariant-loop-known l = (l.known ≤ 6) × (l.known ≤ length l.text) × (take l.known l.text ≡ take l.known (codes "block "))

abbrev pub decreases-loop-known : goal.decreases-loop-known
decreases-loop-known l = 6 - l.known
