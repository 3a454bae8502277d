use Rattle.std.proofs.Common.{◌<◌, ◌∙◌, length, ap, sym, subst}
use Rattle.cr_leads.specs.Tables.{TableParts}
use Rattle.cr_prune.specs.declared.ends.LeadEnd.{LeadEnd}
use Rattle.cr_prune.specs.Heads.{HeadsParts}
use Rattle.cr_prune.proofs.Limits.{head_long}
use Rattle.cr_prune.proofs.Clashes.{step_in}
use Rattle.cr_prune.proofs.heads.Heads.ring.Goals as goal

pub head_after-requires-clause-step : goal.head_after-requires-clause-step
head_after-requires-clause-step c =
    let seen = c.self.view_is ∙ c.add.ensures in
    step_in c.self.inside.problem.now c.self.inside.leads.now c.args.step c.self.invariant.0.leads_are
    (subst (λ (h : HeadsParts). c.args.step < length h.problem.leads) (sym seen) c.requires.step)

pub head_after-requires-clause-same_stage : goal.head_after-requires-clause-same_stage
head_after-requires-clause-same_stage c =
    let seen = c.self.view_is ∙ c.add.ensures in
    ap (λ (e : LeadEnd). length e.head) c.requires.from ∙ head_long c.args.self.now.problem c.args.self.now.leads
    ∙ sym (ap (λ (t : TableParts). t.stage) c.self.invariant.0.leads_are ∙ ap (λ (h : HeadsParts). h.problem.stage) seen)
