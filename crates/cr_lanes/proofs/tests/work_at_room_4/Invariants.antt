use Rattle.std.proofs.Common.{◌≡◌, ◌<◌, All}
use Rattle.cr_lanes.proofs.tests.work_at_room_4.Given as goal

abbrev pub invariant-loop-number : goal.invariant-loop-number
invariant-loop-number g l = All (λ x. x < l.number) l.end.put × (l.end.name ≡ l.fn.end.name) × (l.end.lent ≡ l.fn.end.lent) × (l.end.gone ≡ l.fn.end.gone)
