use Rattle.std.proofs.Common.{◌<◌, length, sym, subst}
use Rattle.cr_prune.specs.Heads.{HeadsParts}
use Rattle.cr_prune.proofs.Clashes.{step_in}
use Rattle.cr_prune.proofs.heads.Heads.round_in.Goals as goal

pub rows_of-requires : goal.rows_of-requires
rows_of-requires c =
    step_in c.self.inside.problem.now c.self.inside.leads.now c.args.step c.self.invariant.0.leads_are
    (subst (λ (h : HeadsParts). c.args.step < length h.problem.leads) (sym c.self.view_is) c.requires.step)
