use Rattle.std.proofs.Common.{◌≡◌, ◌/◌, ◌%◌, map}
use Rattle.std.specs.List.{range_with_len}
use Rattle.cr_ahead.specs.LeadMoves.{changing_gain}
use Rattle.cr_ahead.specs.ByMethod.{last_at}
use Rattle.cr_ahead.proofs.by_method.changing_gains.Given as goal

abbrev pub invariant-loop-entry : goal.invariant-loop-entry
invariant-loop-entry l = l.gains.items ≡ map (λ entry. changing_gain l.problem (last_at l.each (entry / l.steps)) (entry % l.steps)) (range_with_len 0 l.entry)
