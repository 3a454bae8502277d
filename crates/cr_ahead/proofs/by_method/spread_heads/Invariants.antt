use Rattle.std.proofs.Common.{◌≡◌, ◌/◌, [], map, get_or}
use Rattle.std.specs.List.{range_with_len}
use Rattle.cr_ahead.proofs.by_method.spread_heads.Given as goal

abbrev pub invariant-loop-place : goal.invariant-loop-place
invariant-loop-place l = l.spread.items ≡ map (λ place. get_or l.heads (place / l.each) []) (range_with_len 0 l.place)
