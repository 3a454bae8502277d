use Rattle.std.proofs.Common.{◌≡◌, ◌+◌, ◌++◌, length, take, map}
use Rattle.cr_row.specs.Rows.{product}
use Rattle.cr_log.proofs.ringing.ring_lead.Given as goal

abbrev pub invariant-loop-row : goal.invariant-loop-row
invariant-loop-row l = l.rows ≡ record {
  rows = take (length l.initial.rows.rows + l.row-index) (l.initial.rows.rows ++ map (product l.head) l.lead);
  room = l.initial.rows.room;
}
