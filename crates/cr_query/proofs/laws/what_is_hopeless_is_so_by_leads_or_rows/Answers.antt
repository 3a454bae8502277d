use Rattle.cr_query.proofs.Asked.{leads_or_rows}
use Rattle.cr_query.proofs.laws.what_is_hopeless_is_so_by_leads_or_rows.Goals as goal

pub returns : goal.returns
returns c = leads_or_rows
