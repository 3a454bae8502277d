use Rattle.std.proofs.Common.{◌≡◌}
use Rattle.cr_model.specs.Problems.{ProblemParts}
use Rattle.cr_leads.specs.Tables.{lead_table}
use Rattle.cr_path.specs.PathLimits.{false_leads}
use Rattle.cr_path.proofs.numbers.path_limits.which_are_false.Given as goal

abbrev pub invariant-loop-step : goal.invariant-loop-step
invariant-loop-step l = (p : ProblemParts) → l.leads ≡ lead_table p → l.twice.items ≡ false_leads p l.step
