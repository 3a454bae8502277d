use Rattle.std.proofs.Common.{◌≡◌, ◌≤◌, length, take}
use Rattle.cr_shard.specs.Hashes.{IsClean}
use Rattle.cr_shard.proofs.way.Way.go_on.Given as goal

-- the way has begun with so many steps, and is clean if it was
abbrev pub invariant-loop-index : goal.invariant-loop-index
invariant-loop-index l = (l.self ≡ take l.index l.node) × (l.index ≤ length l.node) × (IsClean l.known.hashes l.initial.self → IsClean l.known.hashes l.self)
