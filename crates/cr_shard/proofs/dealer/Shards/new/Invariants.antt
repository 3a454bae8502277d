use Rattle.std.proofs.Common.{◌≡◌, All, [], length}
use Rattle.cr_model.specs.Problems.{ProblemParts}
use Rattle.cr_shard.specs.Dealers.{AreLinesOf}
use Rattle.cr_shard.proofs.dealer.Shards.new.Given as goal

-- so many shards without nodes
abbrev pub invariant-loop-shard : goal.invariant-loop-shard
invariant-loop-shard l = (length l.lines.items ≡ l.shard) × ((p : ProblemParts) → All (AreLinesOf p []) l.lines.items)
