use Rattle.std.proofs.Common.{◌≡◌, drop}
use Rattle.cr_shard.specs.Hashes.{hash_from, hash_of}
use Rattle.cr_shard.proofs.hashes.hash_of.Given as goal

abbrev pub invariant-loop-step : goal.invariant-loop-step
invariant-loop-step l = hash_from l.hash (drop l.step-index l.steps) ≡ hash_of l.steps
