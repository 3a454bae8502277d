use Rattle.std.proofs.Common.{◌≡◌, ◌≤◌}
use Rattle.cr_desk.proofs.desk.Desk.ask_by.Given as goal

abbrev pub invariant-loop : goal.invariant-loop
invariant-loop g l =
    (l.seat.worker ≡ l.fn.seat.worker) × (l.seat.share.parts ≡ l.fn.seat.share.parts) × (l.fn.seat.share.amount ≤ l.seat.share.amount)
    × (g.H.Hints.key l.hints ≡ g.H.Hints.key l.fn.hints)
