use Rattle.cr_ahead.proofs.LeadMoves.{changed_more, last_more, few_changes}
use Rattle.cr_ahead.proofs.laws.lead_moves.changes_of_method_lead_by_lead.Goals as goal

pub returns : goal.returns
returns c = record { more = changed_more; last = last_more; few = few_changes }
