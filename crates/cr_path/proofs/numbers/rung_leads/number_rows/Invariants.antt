use Rattle.std.proofs.Common.{map, take}
use Rattle.cr_row.specs.Rows.{product}
use Rattle.cr_path.specs.RungLeads.{AreNumbered}
use Rattle.cr_path.proofs.numbers.rung_leads.number_rows.Given as goal

abbrev pub invariant-loop-row : goal.invariant-loop-row
invariant-loop-row l =
    AreNumbered l.initial.rows.rows l.initial.numbers.items (map (product l.head) (take l.row-index l.lead)) l.rows.rows l.numbers.items
