use Rattle.std.proofs.Common.{◌≡◌, ◌≤◌, ◌+◌, ◌++◌, length, map, vec_len, vec_capacity, All}
use Rattle.cr_run.specs.HintsKey.{hints_key, end_part, key_part}
use Rattle.cr_run.proofs.crew.taken_apart.Given as goal

abbrev pub invariant-loop-place : goal.invariant-loop-place
invariant-loop-place g l =
    (map end_part l.ends.items ≡ map (λ p. key_part (hints_key p.hints)) l.yielded)
    × (map (λ t. t.names) l.thieves.items ≡ map (λ p. (hints_key p.hints).thief) l.yielded)
    × (l.yielded ++ l.place-iterator.rest.items ≡ l.initial.place-iterator.rest.items)
    × All (λ s. s.share.parts ≡ 1) l.seats.items
    × (vec_len l.seats + length l.place-iterator.rest.items ≡ vec_len l.fn.places)
    × (vec_len l.seats + length l.place-iterator.rest.items ≤ vec_capacity l.seats)
    × (vec_len l.ends + length l.place-iterator.rest.items ≤ vec_capacity l.ends)
    × (vec_len l.thieves + length l.place-iterator.rest.items ≤ vec_capacity l.thieves)
