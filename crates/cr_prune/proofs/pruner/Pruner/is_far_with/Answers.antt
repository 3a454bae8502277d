use Rattle.std.proofs.Common.{◌<◌, length, sym, subst}
use Rattle.cr_leads.specs.Tables.{leads_counted}
use Rattle.cr_prune.specs.Pruners.{PrunerParts}
use Rattle.cr_prune.proofs.pruner.Pruner.is_far_with.Goals as goal

pub head_after-requires-clause-step : goal.head_after-requires-clause-step
head_after-requires-clause-step c =
    let step = subst (λ (s : PrunerParts). c.args.step < length s.problem.leads) (sym c.self.view_is) c.requires.step in
    subst (λ n. c.args.step < n) (sym (leads_counted c.self.inside.leads.now c.self.inside.problem.now c.self.invariant.0)) step
