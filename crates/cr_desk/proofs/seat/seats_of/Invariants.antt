use Rattle.std.proofs.Common.{◌≡◌, ◌+◌, map, vec_len, All}
use Rattle.std.specs.List.{range_with_len}
use Rattle.cr_desk.proofs.seat.seats_of.Given as goal

abbrev pub invariant-loop-worker : goal.invariant-loop-worker
invariant-loop-worker g l =
    (l.all.parts + l.worker ≡ l.workers) × (l.all.amount ≡ 0) × (vec_len l.seats ≡ l.worker)
    × (map (λ s. s.worker) l.seats.items ≡ range_with_len 0 l.worker) × All (λ s. s.share.parts ≡ 1) l.seats.items × All (λ s. s.share.amount ≡ 0) l.seats.items
