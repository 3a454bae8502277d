-- the entries before lead right
use Rattle.std.proofs.Common.{◌≡◌, ℕ, ◌/◌, ◌%◌, ◌<◌, [], get_or}
use Rattle.cr_model.specs.Problems.{ProblemParts}
use Rattle.cr_leads.specs.Tables.{lead_table}
use Rattle.cr_ahead.proofs.HeadMoves.{LeadsRight}
use Rattle.cr_ahead.proofs.tests.lead_heads.all_lead.Given as goal

abbrev pub invariant-loop-entry : goal.invariant-loop-entry
invariant-loop-entry l = (k : ℕ) → k < l.entry → (p : ProblemParts) → l.leads ≡ lead_table p → LeadsRight p l.heads l.next l.steps k
