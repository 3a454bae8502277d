use Rattle.std.proofs.Common.{◌≡◌, map, take}
use Rattle.cr_query.specs.Hits.{mark_steps}
use Rattle.cr_query.proofs.hits.marks_of.Given as goal

abbrev pub invariant-loop-count : goal.invariant-loop-count
invariant-loop-count l = l.sets.items ≡ map (mark_steps l.problem) (take l.count-index l.counts)
