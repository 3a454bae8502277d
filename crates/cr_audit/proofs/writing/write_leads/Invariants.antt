use Rattle.std.proofs.Common.{◌≡◌, ◌++◌, drop}
use Rattle.cr_model.specs.Books.{calling_text}
use Rattle.cr_audit.proofs.writing.write_leads.Given as goal

abbrev pub invariant-loop-step : goal.invariant-loop-step
invariant-loop-step l = l.text.items ++ calling_text l.problem (drop l.step-index l.steps) ≡ l.initial.text.items ++ calling_text l.problem l.steps
