use Rattle.std.proofs.Common.{◌≡◌, ◌++◌, map, take}
use Rattle.cr_row.specs.Rows.{product}
use Rattle.cr_model.specs.Callings.{last_of}
use Rattle.cr_leads.proofs.ringing.ring_lead.Given as goal

abbrev pub invariant-loop-row : goal.invariant-loop-row
invariant-loop-row l = record {
  rows : l.rows.items ≡ l.initial.rows.items ++ map (product l.head) (take l.row-index l.lead);
  last : l.last ≡ last_of l.head (map (product l.head) (take l.row-index l.lead));
}
