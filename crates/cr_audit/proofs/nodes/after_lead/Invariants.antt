use Rattle.std.proofs.Common.{◌≡◌, ℕ, ◌<◌, List, ◌++◌}
use Rattle.cr_model.specs.Books.{lead_text}
use Rattle.cr_audit.proofs.nodes.after_lead.Given as goal

-- the text begins with none of the leads so far
abbrev pub invariant-loop-step : goal.invariant-loop-step
invariant-loop-step l = (k : ℕ) (rest : List ℕ) → k < l.step → l.text ≡ lead_text l.problem k ++ rest → ⊥
