use Rattle.std.proofs.Common.{◌≡◌, ◌+◌, ◌++◌, length, map, vec_len, All}
use Rattle.cr_run.specs.HintsKey.{hints_key}
use Rattle.cr_run.proofs.crew.hinted.Given as goal

abbrev pub invariant-loop-own : goal.invariant-loop-own
invariant-loop-own g l =
    (map (λ p. hints_key p.hints) l.places.items ≡ map hints_key l.yielded)
    × (l.yielded ++ l.own-iterator.rest.items ≡ l.initial.own-iterator.rest.items)
    × (vec_len l.seats ≡ length l.own-iterator.rest.items)
    × (vec_len l.places + length l.own-iterator.rest.items ≡ vec_len l.fn.seats)
    × All (λ s. s.share.parts ≡ 1) l.seats.items
