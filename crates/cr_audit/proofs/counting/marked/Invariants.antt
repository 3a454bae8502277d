use Rattle.std.proofs.Common.{◌≡◌, nat_eq, count_by}
use Rattle.cr_model.specs.Callings.{mark_of}
use Rattle.cr_audit.proofs.Taken.{below}
use Rattle.cr_audit.proofs.counting.marked.Given as goal

-- the leads of the steps so far
abbrev pub invariant-loop-step : goal.invariant-loop-step
invariant-loop-step l = l.number ≡ count_by (below (λ s. nat_eq (mark_of l.problem s) l.mark) l.step) l.path.node.items
