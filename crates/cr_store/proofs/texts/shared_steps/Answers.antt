use Rattle.std.proofs.Common.{arith}
use Rattle.cr_store.proofs.StepTexts.{shared_past}
use Rattle.cr_store.proofs.texts.shared_steps.Goals as goal

pub returns-clause-is : goal.returns-clause-is
returns-clause-is c =
    omega (arith, c.loop-index.invariant, shared_past c.args.before.now c.args.node.now c.loop-index.index (omega arith))
