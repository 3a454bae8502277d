use Rattle.std.proofs.Common.{◌≡◌, ◌%◌, map}
use Rattle.std.specs.List.{range_with_len}
use Rattle.cr_ahead.specs.LeadMoves.{marked_gain}
use Rattle.cr_ahead.proofs.item_gains.marked_gains.Given as goal

abbrev pub invariant-loop-entry : goal.invariant-loop-entry
invariant-loop-entry l = l.gains.items ≡ map (λ entry. marked_gain l.problem l.mark (entry % l.steps)) (range_with_len 0 l.entry)
