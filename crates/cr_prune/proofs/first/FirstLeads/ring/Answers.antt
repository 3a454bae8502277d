use Rattle.std.proofs.Common.{◌≡◌, ◌∙◌, length, ap, arith, subst, sym}
use Rattle.std.proofs.lemmas.List.Elements.{All-weaker}
use Rattle.cr_row.specs.Rows.{Places}
use Rattle.cr_leads.specs.Tables.{TableParts}
use Rattle.cr_model.specs.Sizes.{child}
use Rattle.cr_prune.specs.declared.ends.LeadEnd.{LeadEnd}
use Rattle.cr_prune.specs.declared.held.Held.{Held}
use Rattle.cr_prune.specs.declared.first.FirstLeads.{FirstLeads}
use Rattle.cr_prune.specs.Holding.{AreFirst}
use Rattle.cr_prune.proofs.Clashes.{step_in}
use Rattle.cr_prune.proofs.Holding.{held_whole, can_ring, again, below}
use Rattle.cr_prune.proofs.Leads.{child_length}
use Rattle.cr_prune.proofs.Limits.{head_long, lead_few, part_few}
use Rattle.cr_prune.proofs.first.FirstLeads.ring.Goals as goal
use Rattle.cr_prune.proofs.first.FirstLeads.ring.Goals.{then-self-node+in_default, else-self-node}

pub ring-requires-clause-can : goal.ring-requires-clause-can
ring-requires-clause-can c =
    let p = c.args.problem.now in
    let node = c.args.node.now in
    can_ring p node c.args.self.now.held c.args.from c.args.step (length c.changes_of-changes.result.now)
    (held_whole p node c.args.self.now.held c.args.self.now.fresh c.requires.first c.if-self-node.true)
    c.requires.from c.requires.step c.requires.few c.requires.short (part_few p c.changes_of-changes.ensures.sound) c.changes_of-changes.ensures.few

pub ring-requires-clause-staged : goal.ring-requires-clause-staged
ring-requires-clause-staged c =
    let long : length c.args.from.head ≡ c.args.problem.now.stage = ap (λ (e : LeadEnd). length e.head) c.requires.from ∙ head_long c.args.problem.now c.args.node.now in
    All-weaker (λ (change : Places). change.stage ≡ c.args.problem.now.stage) (λ (change : Places). change.stage ≡ length c.args.from.head) (λ change h. h ∙ sym long)
    c.changes_of-changes.result.now c.changes_of-changes.ensures.staged

pub head_after-head-requires-clause-step : goal.head_after-head-requires-clause-step
head_after-head-requires-clause-step c = step_in c.args.problem.now c.args.leads.now c.args.step c.requires.table c.requires.step

pub head_after-head-requires-clause-same_stage : goal.head_after-head-requires-clause-same_stage
head_after-head-requires-clause-same_stage c =
    ap (λ (e : LeadEnd). length e.head) c.requires.from ∙ head_long c.args.problem.now c.args.node.now ∙ ap (λ (t : TableParts). t.stage) (sym c.requires.table)

pub returns-clause-first : goal.returns-clause-first
returns-clause-first c =
    let p = c.args.problem.now in
    let node = c.args.node.now in
    let first = c.requires.first in
    elim c.if-self-node.branch [
      | then-self-node+in_default w ↦
          let whole = held_whole p node c.args.self.now.held c.args.self.now.fresh first w.if-self-node.true in
          let none = w.in_default.ensures p node whole c.requires.from c.changes_of-changes.ensures.is in
          subst (λ (leads : FirstLeads). AreFirst p (child node c.args.step) leads.held leads.fresh) (sym w.self-is)
          (subst (λ (held : Held). AreFirst p (child node c.args.step) held c.args.self.now.fresh) (sym none.0)
          (again p node c.args.self.now.held c.args.self.now.fresh first c.args.step w.if-self-node.true none.1))
      | else-self-node w ↦
          subst (λ (leads : FirstLeads). AreFirst p (child node c.args.step) leads.held leads.fresh) (sym w.self-is)
          (below p node c.args.self.now.held c.args.self.now.fresh first c.args.step w.if-self-node.false)
    ]

pub returns-in-Some-clause-within : goal.returns-in-Some-clause-within
returns-in-Some-clause-within c =
    let p = c.args.problem.now in
    omega (arith, child_length p c.args.node.now c.args.step, lead_few p c.args.step c.changes_of-changes.ensures.sound c.requires.step, c.requires.short)

pub returns-clause-within : goal.returns-clause-within
returns-clause-within c =
    let p = c.args.problem.now in
    omega (arith, child_length p c.args.node.now c.args.step, lead_few p c.args.step c.changes_of-changes.ensures.sound c.requires.step, c.requires.short)
