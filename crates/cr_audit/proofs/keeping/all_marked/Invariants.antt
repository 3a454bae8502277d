use Rattle.std.proofs.Common.{All, take}
use Rattle.cr_model.specs.OneTurn.{touch_of}
use Rattle.cr_model.specs.Queries.{IsWithin, leads_marked}
use Rattle.cr_audit.proofs.keeping.all_marked.Given as goal

abbrev pub invariant-loop-index : goal.invariant-loop-index
invariant-loop-index l = All (λ count. IsWithin count.min count.max (leads_marked l.problem count.mark (touch_of l.problem l.path.node.items))) (take l.index l.counts)
