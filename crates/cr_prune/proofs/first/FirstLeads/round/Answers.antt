use Rattle.std.proofs.Common.{take}
use Rattle.cr_prune.proofs.first.FirstLeads.round.Goals as goal

pub returns : goal.returns
returns c p node is first = c.round.ensures p (take c.args.self.now.fresh node) is first.are_held
