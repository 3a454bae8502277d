use Rattle.std.proofs.Common.{ℕ, ◌<◌}
use Rattle.cr_model.specs.Right.{LeadIsRight}
use Rattle.cr_model.proofs.lead_checks.wrong_lead.Given as goal

abbrev pub invariant-loop-index : goal.invariant-loop-index
invariant-loop-index l = (i : ℕ) → i < l.index → LeadIsRight l.stage l.methods l.leads i
