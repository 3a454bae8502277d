use Rattle.cr_prune.proofs.Leads.{repeat_told}
use Rattle.cr_prune.proofs.first.FirstLeads.has_repeat.Goals as goal

pub returns : goal.returns
returns c p node all first = repeat_told p node c.args.self.now.fresh c.args.leads first.are_fresh all
