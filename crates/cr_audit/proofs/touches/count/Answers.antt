use Rattle.cr_audit.proofs.Adding.{ascending}
use Rattle.cr_audit.proofs.touches.count.Goals as goal

pub returns-clause-ascending : goal.returns-clause-ascending
returns-clause-ascending c = λ p are. ascending p c.args.touches.now.keys are c.len.ensures.ordered
