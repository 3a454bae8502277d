use Rattle.std.proofs.Common.{◌≡◌, ℕ, ◌<◌, false, not, [], ◌∷◌, length, get_or}
use Rattle.cr_model.specs.Problems.{ProblemParts}
use Rattle.cr_model.specs.Callings.{rows_of}
use Rattle.cr_model.specs.Decided.{rows_differ}
use Rattle.cr_leads.specs.Tables.{lead_table}
use Rattle.cr_prune.proofs.prune_limits.false_leads.Given as goal

abbrev pub invariant-loop-step : goal.invariant-loop-step
invariant-loop-step l = record {
  long : length l.false_leads ≡ 24;
  leads : (p : ProblemParts) → l.leads ≡ lead_table p → (k : ℕ) → k < l.step → get_or l.false_leads k false ≡ not (rows_differ (rows_of p (k ∷ [])));
}
