use Rattle.std.proofs.Common.{◌≡◌, ◌+◌, vec_len, sum_by}
use Rattle.cr_desk.proofs.seat.merged.Given as goal

abbrev pub invariant-loop-seat : goal.invariant-loop-seat
invariant-loop-seat g l =
    (l.all.parts + sum_by (λ s. s.share.parts) l.seats.items ≡ sum_by (λ s. s.share.parts) l.fn.seats.items)
    × (l.all.amount + sum_by (λ s. s.share.amount) l.seats.items ≡ sum_by (λ s. s.share.amount) l.fn.seats.items)

abbrev pub decreases-loop-seat : goal.decreases-loop-seat
decreases-loop-seat g l = vec_len l.seats
