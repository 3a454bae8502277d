use Rattle.std.proofs.Common.{◌≡◌, take}
use Rattle.cr_model.specs.Queries.{changes_of_method}
use Rattle.cr_audit.proofs.counting.changes_of_method.Given as goal

abbrev pub invariant-loop-index : goal.invariant-loop-index
invariant-loop-index l = l.number ≡ changes_of_method l.problem (take l.index l.steps)
