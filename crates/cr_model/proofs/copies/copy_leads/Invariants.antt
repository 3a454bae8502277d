use Rattle.std.proofs.Common.{◌≡◌, take}
use Rattle.cr_model.proofs.copies.copy_leads.Given as goal

abbrev pub invariant-loop-lead : goal.invariant-loop-lead
invariant-loop-lead l = l.copies.items ≡ take l.lead-index l.leads
