use Rattle.std.proofs.Common.{◌≡◌, ◌∙◌, length, sym, ap, subst}
use Rattle.cr_row.specs.Rows.{rounds}
use Rattle.cr_model.specs.Callings.{rows_of, head_of}
use Rattle.cr_model.specs.Decided.{rows_differ}
use Rattle.cr_model.specs.OneTurn.{touch_of}
use Rattle.cr_prune.specs.declared.ends.LeadEnd.{LeadEnd}
use Rattle.cr_prune.specs.Walks.{WalkParts}
use Rattle.cr_prune.proofs.Limits.{head_long}
use Rattle.cr_prune.proofs.Multiplied.{touch_told}
use Rattle.cr_prune.proofs.walk.Walk.parts_differ.Goals as goal

pub bring_new_rows-requires-clause-same_stage : goal.bring_new_rows-requires-clause-same_stage
bring_new_rows-requires-clause-same_stage c =
    let p = c.self.inside.problem.now in
    let node = c.self.inside.steps in
    ap (λ (e : LeadEnd). length e.head) (c.last-head.ensures p node c.self.invariant.ends) ∙ head_long p node

pub returns : goal.returns
returns c =
    let p = c.self.inside.problem.now in
    let node = c.self.inside.steps in
    let round : head_of p (touch_of p node) ≡ rounds p.stage =
    subst (λ (w : WalkParts). head_of w.problem (touch_of w.problem w.node) ≡ rounds w.problem.stage) (sym c.self.view_is) c.requires.round in
    touch_told p node c.self.inside.first.fresh c.last-head.result.head c.steps-node.result.now c.parts_to_ring-parts.result c.bring_new_rows.result
    c.self.invariant.first.are_fresh (ap (λ (w : WalkParts). rows_differ (rows_of w.problem w.node)) c.self.view_is ∙ c.requires.fresh) round
    (ap (λ (e : LeadEnd). e.head) (c.last-head.ensures p node c.self.invariant.ends)) c.steps-node.ensures.is
    c.parts_to_ring-parts.ensures.within c.parts_to_ring-parts.ensures.enough c.bring_new_rows.ensures
    ∙ ap (λ (w : WalkParts). rows_differ (rows_of w.problem (touch_of w.problem w.node))) c.self.view_is
