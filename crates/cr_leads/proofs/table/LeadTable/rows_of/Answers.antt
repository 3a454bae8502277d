use Rattle.std.proofs.Common.{◌≡◌, [], sym, ◌∙◌, subst, rules}
use Rattle.std.proofs.lemmas.List.Elements.{All-get_or}
use Rattle.cr_leads.specs.Tables.{lead_rows, IsLead, IsTable, rows_of_step}
use Rattle.cr_leads.proofs.table.LeadTable.rows_of.Goals as goal

pub returns-clause-of_problem : goal.returns-clause-of_problem
returns-clause-of_problem c = λ p is.
    let at : c.lead_at.result.now ≡ lead_rows c.args.self.now c.args.step = search rules in
    at ∙ rows_of_step c.args.self.now p c.args.step is c.requires

pub returns-clause-lead : goal.returns-clause-lead
returns-clause-lead c =
    let at : c.lead_at.result.now ≡ lead_rows c.args.self.now c.args.step = search rules in
    let table : IsTable c.args.self.now = subst IsTable c.self.view_is c.self.invariant.table in
    subst (IsLead c.args.self.now.stage) (sym at) (All-get_or (IsLead c.args.self.now.stage) c.args.self.now.leads c.args.step [] c.requires table.leads)
