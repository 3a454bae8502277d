use Rattle.std.proofs.Common.{◌≡◌, ◌/◌, ◌%◌, map}
use Rattle.std.specs.List.{range_with_len}
use Rattle.cr_ahead.specs.ByMethod.{spread_place}
use Rattle.cr_ahead.proofs.by_method.spread_next.Given as goal

abbrev pub invariant-loop-entry : goal.invariant-loop-entry
invariant-loop-entry l = l.led.items ≡ map (λ entry. spread_place l.problem l.each l.next (entry / l.steps) (entry % l.steps)) (range_with_len 0 l.entry)
