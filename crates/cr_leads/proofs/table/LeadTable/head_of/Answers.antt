use Rattle.std.proofs.Common.{◌≡◌, [], length, sym, subst}
use Rattle.cr_row.specs.Rows.{IsRow}
use Rattle.cr_leads.proofs.LastRows.{last_of_some}
use Rattle.cr_leads.proofs.table.LeadTable.head_of.Goals as goal

pub returns-clause-row : goal.returns-clause-row
returns-clause-row c =
    let lead = c.rows_of.ensures.lead in
    subst (λ row. IsRow row × (length row ≡ c.args.self.now.stage)) (sym (c.last_row.ensures []))
    (last_of_some (λ row. IsRow row × (length row ≡ c.args.self.now.stage)) [] c.rows_of.result.now lead.some lead.are_rows)
