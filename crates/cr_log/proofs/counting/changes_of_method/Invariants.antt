use Rattle.std.proofs.Common.{◌≡◌, ◌+◌, ◌-◌, ◌≤◌, drop}
use Rattle.cr_model.specs.Queries.{changes_of_method}
use Rattle.cr_log.proofs.counting.changes_of_method.Given as goal

abbrev pub invariant-loop-index : goal.invariant-loop-index
invariant-loop-index l = (l.number + changes_of_method l.problem (drop (l.index - 1) l.steps) ≡ changes_of_method l.problem l.steps) × (l.number ≤ l.index)
