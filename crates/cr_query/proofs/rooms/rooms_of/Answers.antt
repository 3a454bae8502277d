use Rattle.std.proofs.Common.{◌≡◌, ◌+◌, rules, arith}
use Rattle.std.proofs.lemmas.List.FromFn.{map-range_with_len_more}
use Rattle.cr_query.specs.Gauges.{room_left}
use Rattle.cr_query.proofs.rooms.rooms_of.Goals as goal

pub loop-length-preserved : goal.loop-length-preserved
loop-length-preserved c =
    let at : 0 + c.loop-length.length ≡ c.loop-length.length = omega arith in
    search (rules, map-range_with_len_more (room_left c.args.numbers) 0 c.loop-length.length c.loop-length.length at)
