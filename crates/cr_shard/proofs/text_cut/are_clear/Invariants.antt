use Rattle.std.proofs.Common.{take, All}
use Rattle.cr_model.specs.Nodes.{part_of}
use Rattle.cr_shard.specs.Hashes.{IsClear}
use Rattle.cr_shard.proofs.text_cut.are_clear.Given as goal

-- no node is above the touches so far
abbrev pub invariant-loop-calling : goal.invariant-loop-calling
invariant-loop-calling l = All (λ touch. IsClear l.known.hashes (part_of l.problem touch)) (take l.calling-index l.found)
