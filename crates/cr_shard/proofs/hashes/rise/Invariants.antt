use Rattle.std.proofs.Common.{◌<◌, ℕ, get_or}
use Rattle.cr_shard.proofs.hashes.rise.Given as goal

-- the numbers so far rise
abbrev pub invariant-loop-index : goal.invariant-loop-index
invariant-loop-index l = (i j : ℕ) → i < j → j < l.index → get_or l.numbers i 0 < get_or l.numbers j 0
