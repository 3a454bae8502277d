use Rattle.std.proofs.Common.{◌≡◌, take}
use Rattle.cr_model.specs.Callings.{rows_of}
use Rattle.cr_audit.proofs.path.ring_rest.Given as goal

abbrev pub invariant-loop-index : goal.invariant-loop-index
invariant-loop-index l = l.rows.items ≡ rows_of l.problem (take l.index l.steps)
