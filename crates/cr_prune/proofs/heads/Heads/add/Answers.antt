use Rattle.std.proofs.Common.{◌<◌, ◌∙◌, length, ap, sym, subst, arith}
use Rattle.cr_row.specs.Rows.{rounds}
use Rattle.cr_model.specs.Callings.{rows_of, head_of}
use Rattle.cr_model.specs.Sizes.{child}
use Rattle.cr_prune.specs.declared.ends.LeadEnd.{LeadEnd}
use Rattle.cr_prune.specs.Heads.{HeadsParts, IsFound}
use Rattle.cr_prune.proofs.Clashes.{heads_more}
use Rattle.cr_prune.proofs.heads.Heads.add.Goals as goal

pub invariant_of-self : goal.invariant_of-self
invariant_of-self c =
    let p = c.self.inside.problem.now in
    let kept = c.self.invariant in
    let step : c.args.step < length p.leads = subst (λ (h : HeadsParts). c.args.step < length h.problem.leads) (sym c.self.view_is) c.requires.step in
    let head = ap (λ (e : LeadEnd). e.head) c.requires.from ∙ ap (λ (h : HeadsParts). head_of h.problem h.leads) (sym c.self.view_is) in
    let undoes = rw head at c.inverse_of-inverse.ensures in
    let found = subst (λ (h : HeadsParts). IsFound (rows_of h.problem (child h.leads c.args.step)) (rounds h.problem.stage) c.round_with-round.result) (sym c.self.view_is) c.round_with-round.ensures in (
      rw c.push.ensures.items (heads_more p c.self.inside.leads.now c.self.inside.table.now c.self.inside.earlier.items _ kept.0 step undoes found),
      omega (arith, c.push.ensures.capacity, kept.1),
    )
