use Rattle.std.proofs.Common.{◌+◌, ◌-◌, ◌<◌, ◌≤◌, ℕ, List, length, take, All, sym, subst, arith}
use Rattle.std.proofs.lemmas.List.{take_all}
use Rattle.cr_path.specs.declared.numbers.rung_leads.RungLead.{RungLead}
use Rattle.cr_path.proofs.Padding.{few_more}
use Rattle.cr_path.proofs.numbers.row_numbers.most_names.Goals as goal

pub loop-lead-preserved : goal.loop-lead-preserved
loop-lead-preserved c =
    let leads : List RungLead = c.args.leads.now in
    let inside : c.loop-lead.lead-index < length leads = omega (arith, c.loop-lead-test.true) in
    subst (λ (n : ℕ). All (λ (lead : RungLead). lead.end - lead.start ≤ n) (take (c.loop-lead.lead-index + 1) leads)) (sym c.max-most.ensures)
    (few_more leads c.loop-lead.lead-index c.loop-lead.most c.saturating_sub.result inside c.loop-lead.invariant c.saturating_sub.ensures)

pub returns : goal.returns
returns c =
    subst (All (λ (lead : RungLead). lead.end - lead.start ≤ c.loop-lead.most))
    (take_all c.loop-lead.lead-index c.args.leads.now (omega (arith, c.loop-lead-test.false))) c.loop-lead.invariant
