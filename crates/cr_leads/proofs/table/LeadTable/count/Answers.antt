use Rattle.std.proofs.Common.{◌≡◌, length, ◌∙◌, arith}
use Rattle.std.proofs.lemmas.Grind.{common_steps}
use Rattle.cr_leads.specs.Tables.{leads_counted}
use Rattle.cr_leads.proofs.table.LeadTable.count.Goals as goal

pub returns-clause-of_problem : goal.returns-clause-of_problem
returns-clause-of_problem c = λ p is.
    let number : c.len.result ≡ length c.args.self.now.leads = grind (arith, common_steps) in
    number ∙ leads_counted c.args.self.now p is
