use Rattle.std.proofs.Common.{refl}
use Rattle.cr_query.proofs.Metering.{one_fewer}
use Rattle.cr_query.proofs.leads.LeadCounts.take_last.Goals as goal

pub returns-clause-is : goal.returns-clause-is
returns-clause-is c p node counted = one_fewer p node c.args.self.now _ counted c.cut.ensures.items refl refl refl refl
