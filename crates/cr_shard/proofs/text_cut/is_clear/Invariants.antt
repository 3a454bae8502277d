use Rattle.std.proofs.Common.{◌≡◌, ◌<◌, ℕ, take}
use Rattle.cr_shard.specs.Hashes.{hash_of, IsMissing}
use Rattle.cr_shard.proofs.text_cut.is_clear.Given as goal

-- the hashes before the steps so far are missing
abbrev pub invariant-loop-step : goal.invariant-loop-step
invariant-loop-step l = (l.hash ≡ hash_of (take l.step-index l.steps)) × ((n : ℕ) → n < l.step-index → IsMissing l.known.hashes (hash_of (take n l.steps)))
