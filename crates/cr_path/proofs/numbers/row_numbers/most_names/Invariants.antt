use Rattle.std.proofs.Common.{◌-◌, ◌≤◌, All, take}
use Rattle.cr_path.specs.declared.numbers.rung_leads.RungLead.{RungLead}
use Rattle.cr_path.proofs.numbers.row_numbers.most_names.Given as goal

abbrev pub invariant-loop-lead : goal.invariant-loop-lead
invariant-loop-lead l = All (λ (lead : RungLead). lead.end - lead.start ≤ l.most) (take l.lead-index l.leads)
