use Rattle.std.proofs.Common.{subst}
use Rattle.cr_rowset.specs.Stacks.{StackParts, AllDiffer}
use Rattle.cr_rowset.proofs.Held.{all_differ}
use Rattle.cr_rowset.proofs.stack.RowStack.len.Goals as goal

pub returns-clause-different : goal.returns-clause-different
returns-clause-different c =
    let kept = c.self.invariant in
    subst (λ (s : StackParts). AllDiffer s.rows) c.self.view_is (all_differ c.self.inside.keys.items c.self.inside.len kept.within kept.held kept.differ)
