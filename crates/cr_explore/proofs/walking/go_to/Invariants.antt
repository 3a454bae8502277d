use Rattle.std.proofs.Common.{◌≡◌, take}
use Rattle.cr_prune.specs.Walks.{walk_from}
use Rattle.cr_explore.proofs.walking.go_to.Given as goal

abbrev pub invariant-loop-index : goal.invariant-loop-index
invariant-loop-index l = l.walk ≡ walk_from l.fn.walk.problem (take l.index l.node)
