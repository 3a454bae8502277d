use Rattle.std.proofs.Common.{◌≡◌, length, drop}
use Rattle.cr_prune.specs.Rung.{IsRinging}
use Rattle.cr_prune.proofs.rows.ring_lead.Given as goal

abbrev pub invariant-loop-change : goal.invariant-loop-change
invariant-loop-change l = record {
  stage : length l.row ≡ length l.fn.from;
  ringing : IsRinging l.fn.stack l.stack l.fn.from l.row l.changes (drop l.change-index l.changes);
}
