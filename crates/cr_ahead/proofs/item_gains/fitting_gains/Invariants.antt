use Rattle.std.proofs.Common.{◌≡◌, ◌/◌, ◌%◌, [], map, get_or}
use Rattle.std.specs.List.{range_with_len}
use Rattle.cr_ahead.specs.LeadMoves.{fitting_gain}
use Rattle.cr_ahead.proofs.item_gains.fitting_gains.Given as goal

abbrev pub invariant-loop-entry : goal.invariant-loop-entry
invariant-loop-entry l = l.gains.items ≡ map (λ entry. fitting_gain l.problem l.cells (get_or l.heads (entry / l.steps) []) (entry % l.steps)) (range_with_len 0 l.entry)
