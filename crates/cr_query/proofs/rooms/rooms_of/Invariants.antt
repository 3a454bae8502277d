use Rattle.std.proofs.Common.{◌≡◌, map}
use Rattle.std.specs.List.{range_with_len}
use Rattle.cr_query.specs.Gauges.{room_left}
use Rattle.cr_query.proofs.rooms.rooms_of.Given as goal

abbrev pub invariant-loop-length : goal.invariant-loop-length
invariant-loop-length l = l.rooms.items ≡ map (room_left l.numbers) (range_with_len 0 l.length)
