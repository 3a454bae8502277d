use Rattle.std.proofs.Common.{take}
use Rattle.cr_prune.proofs.first.FirstLeads.ring_past.Goals as goal

pub returns-clause-past : goal.returns-clause-past
returns-clause-past c node first = c.ring_past.ensures.past (take c.args.self.now.fresh node) first.are_held
