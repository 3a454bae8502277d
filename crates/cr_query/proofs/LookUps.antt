-- A look-up in the table of room.
use Rattle.std.proofs.Common.{◌≡◌, ℕ, ◌+◌, ◌-◌, ◌/◌, ◌≤◌, List, length, get_or, sym, ap, ◌∙◌, arith}
use Rattle.std.proofs.Math.Nat.{zero-div}
use Rattle.std.proofs.lemmas.List.FromFn.{get_or-map-range_with_len, length-map-range_with_len}
use Rattle.cr_query.specs.declared.numbers.Numbers.{Numbers}
use Rattle.cr_query.specs.Gauges.{room_left, AreRooms}

pub rooms_counted : (numbers : Numbers) (rooms : List ℕ) → AreRooms numbers rooms → length rooms ≡ numbers.part_most + 1
rooms_counted numbers rooms are = ap length are ∙ length-map-range_with_len (room_left numbers) 0 (numbers.part_most + 1)

-- an entry
pub room_within : (numbers : Numbers) (rooms : List ℕ) (long d : ℕ) → AreRooms numbers rooms → long + 1 ≤ length rooms → get_or rooms long d ≡ room_left numbers long
room_within numbers rooms long d are inside =
    let at : 0 + long ≡ long = omega arith in
    ap (λ l. get_or l long d) are
    ∙ get_or-map-range_with_len (room_left numbers) 0 (numbers.part_most + 1) long long d (omega (arith, inside, rooms_counted numbers rooms are)) at

-- and past the last one
pub room_past : (numbers : Numbers) (rooms : List ℕ) (long : ℕ) → AreRooms numbers rooms → length rooms ≤ long → 0 ≡ room_left numbers long
room_past numbers rooms long are past =
    let none : numbers.part_most - long ≡ 0 = omega (arith, past, rooms_counted numbers rooms are) in
    sym (ap (λ n. n / numbers.shortest) none ∙ zero-div numbers.shortest)
