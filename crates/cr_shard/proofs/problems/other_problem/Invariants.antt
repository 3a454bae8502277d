use Rattle.std.proofs.Common.{◌≡◌, ℕ, ◌<◌}
use Rattle.cr_shard.specs.JoinFaults.{bytes_at}
use Rattle.cr_shard.proofs.problems.other_problem.Given as goal

abbrev pub invariant-loop-index : goal.invariant-loop-index
invariant-loop-index l = (k : ℕ) → k < l.index → bytes_at l.shards k ≡ bytes_at l.shards 0
