use Rattle.std.proofs.Common.{◌≡◌, drop}
use Rattle.cr_model.specs.Decided.{rows_differ}
use Rattle.cr_prune.proofs.repeats.repeats.Given as goal

abbrev pub invariant-loop-index : goal.invariant-loop-index
invariant-loop-index l = rows_differ l.rows ≡ rows_differ (drop l.index l.rows)
