use Rattle.cr_model.proofs.LeastLeads.{at_least_level, at_least_beyond, at_least_leads}
use Rattle.cr_model.proofs.laws.levels.no_fewer_leads_lead_to_rounds.Goals as goal

pub returns : goal.returns
returns c = record { listed = at_least_level c.change_twice.ensures; others = at_least_beyond c.change_twice.ensures; fewer = at_least_leads c.change_twice.ensures }
