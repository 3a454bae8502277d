use Rattle.std.proofs.Common.{◌≡◌, length, drop}
use Rattle.cr_model.specs.Callings.{rows_from, last_of}
use Rattle.cr_audit.proofs.places.last_after.Given as goal

abbrev pub invariant-loop-change : goal.invariant-loop-change
invariant-loop-change l = record {
  long : length l.row ≡ length l.fn.from;
  last : last_of l.row (rows_from l.row (drop l.change-index l.changes)) ≡ last_of l.fn.from (rows_from l.fn.from l.changes);
}
