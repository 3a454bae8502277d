use Rattle.std.proofs.Common.{◌↔◌, length}
use Rattle.cr_audit.specs.Nodes.{IsCallingText}
use Rattle.cr_audit.proofs.nodes.is_calling_text.Given as goal

abbrev pub invariant-loop-rest : goal.invariant-loop-rest
invariant-loop-rest l = IsCallingText l.problem l.text ↔ IsCallingText l.problem l.rest

abbrev pub decreases-loop-rest : goal.decreases-loop-rest
decreases-loop-rest l = length l.rest
