use Rattle.std.proofs.Common.{◌≡◌, ℕ, ◌-◌, ◌<◌, ◌∙◌, List, length, take, sym, ap, subst}
use Rattle.cr_model.specs.Callings.{length_of, head_of}
use Rattle.cr_query.specs.Meters.{MeterParts}
use Rattle.cr_prune.specs.declared.ends.LeadEnd.{LeadEnd}
use Rattle.cr_prune.specs.Holding.{AreFirst}
use Rattle.cr_prune.specs.Walks.{WalkParts, IsWalk, parent}
use Rattle.cr_prune.proofs.Holding.{held_whole, has_more}
use Rattle.cr_prune.proofs.Walking.{returned}
use Rattle.cr_prune.proofs.walk.Walk.back.Goals as goal

pub take_back-requires-clause-more : goal.take_back-requires-clause-more
take_back-requires-clause-more c every =
    let p = c.self.inside.problem.now in
    let node = c.self.inside.steps in
    let some : 0 < length node = subst (λ (w : WalkParts). 0 < length w.node) (sym c.self.view_is) c.requires in
    let before = c.last-before.ensures p (parent node) (c.pop.ensures p node some c.self.invariant.ends) in
    has_more p node c.self.inside.first.held c.last-before.result.rung
    (held_whole p node c.self.inside.first.held c.self.inside.first.fresh c.self.invariant.first (every ∙ ap length c.steps-number.ensures.is))
    some (ap (λ (e : LeadEnd). e.rung) before)

pub take_back-requires-2-clause-from : goal.take_back-requires-2-clause-from
take_back-requires-2-clause-from c =
    let p = c.self.inside.problem.now in
    let node = c.self.inside.steps in
    let some : 0 < length node = subst (λ (w : WalkParts). 0 < length w.node) (sym c.self.view_is) c.requires in
    let before = c.last-before.ensures p (parent node) (c.pop.ensures p node some c.self.invariant.ends) in
    ap (λ (e : LeadEnd). e.head) before ∙ ap (λ (m : MeterParts). head_of m.problem (parent m.node)) (sym c.self.invariant.meter)

pub invariant_of-self : goal.invariant_of-self
invariant_of-self c =
    let p = c.self.inside.problem.now in
    let node = c.self.inside.steps in
    let some : 0 < length node = subst (λ (w : WalkParts). 0 < length w.node) (sym c.self.view_is) c.requires in
    let ends = c.pop.ensures p node some c.self.invariant.ends in
    let before = c.last-before.ensures p (parent node) ends in
    let number : length c.steps-number.result.now ≡ length node = ap length c.steps-number.ensures.is in
    let rung : c.last-before.result.rung ≡ length_of p (take (length c.steps-number.result.now - 1) node) =
    ap (λ (e : LeadEnd). e.rung) before ∙ ap (λ n. length_of p (take (n - 1) node)) (sym number) in
    let first = subst (λ n. AreFirst p (take (n - 1) node) c.take_back.new.self.held c.take_back.new.self.fresh) number (c.take_back.ensures p node number rung c.self.invariant.first) in
    subst (λ (n : List ℕ). IsWalk p c.self.inside.leads.now n c.pop.new.self c.take_back.new.self.held c.take_back.new.self.fresh c.take_back-2.new.self) (sym c.pop-2.ensures)
    (returned p c.self.inside.leads.now node c.self.inside.ends c.self.inside.first.held c.self.inside.first.fresh c.self.inside.meter c.self.invariant
    c.pop.new.self c.take_back.new.self.held c.take_back.new.self.fresh c.take_back-2.new.self ends first c.take_back-2.ensures)
