use Rattle.std.proofs.Common.{◌≡◌, length}
use Rattle.cr_audit.specs.Dues.{later}
use Rattle.cr_audit.specs.Paths.{IsAt}
use Rattle.cr_audit.proofs.path.go_beside.Given as goal

-- the same comes after the node
abbrev pub invariant-loop-step : goal.invariant-loop-step
invariant-loop-step l = IsAt l.problem l.path × (later l.problem l.path.node.items ≡ later l.problem l.initial.path.node.items)

abbrev pub decreases-loop-step : goal.decreases-loop-step
decreases-loop-step l = length l.path.node.items
