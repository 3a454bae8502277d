use Rattle.std.proofs.Common.{◌<◌, ◌≤◌, ◌∙◌, ℕ, List, length, sym, ap, subst}
use Rattle.cr_model.specs.Callings.{length_of}
use Rattle.cr_model.specs.Sizes.{child}
use Rattle.cr_prune.specs.Holding.{AreFirst}
use Rattle.cr_prune.specs.Rung.{room_of}
use Rattle.cr_prune.specs.Ends.{end_of}
use Rattle.cr_prune.specs.Walks.{WalkParts, IsWalk}
use Rattle.cr_prune.proofs.Walking.{walked}
use Rattle.cr_prune.proofs.walk.Walk.go.Goals as goal

pub invariant_of-self : goal.invariant_of-self
invariant_of-self c =
    let p = c.self.inside.problem.now in
    let node = c.self.inside.steps in
    let steps = c.steps.ensures.is in
    let step : c.args.step < length p.leads = subst (λ (w : WalkParts). c.args.step < length w.problem.leads) (sym c.self.view_is) c.requires.step in
    let end = c.ring-end.ensures.end ∙ ap (λ (n : List ℕ). end_of p (child n c.args.step)) steps in
    let within = subst (λ (n : List ℕ). length_of p (child n c.args.step) ≤ room_of p) steps c.ring-end.ensures.within in
    let first = subst (λ (n : List ℕ). AreFirst p (child n c.args.step) c.ring-end.new.self.held c.ring-end.new.self.fresh) steps c.ring-end.ensures.first in
    subst (λ (n : List ℕ). IsWalk p c.self.inside.leads.now n c.push.new.self c.ring-end.new.self.held c.ring-end.new.self.fresh c.add_lead.new.self) (sym c.push-2.ensures)
    (walked p c.self.inside.leads.now node c.self.inside.ends c.self.inside.first.held c.self.inside.first.fresh c.self.inside.meter c.self.invariant
    c.args.step c.push.new.self c.ring-end.new.self.held c.ring-end.new.self.fresh c.add_lead.new.self step within
    (c.push.ensures p node c.args.step c.self.invariant.ends end) first c.add_lead.ensures)
