use Rattle.std.proofs.Common.{length, sym, ◌∙◌, arith, ltb-false, ltb-true}
use Rattle.cr_query.proofs.LookUps.{room_within, room_past}
use Rattle.cr_query.proofs.rooms.room_at.Goals as goal

pub returns-in-Some-clause-is : goal.returns-in-Some-clause-is
returns-in-Some-clause-is c = λ numbers are.
    let inside = ltb-true c.args.length (length c.args.rooms.now) (sym c.in-Some.ensures.lookup.0) in
    c.from.ensures ∙ c.in-Some.ensures.lookup.1 ∙ room_within numbers c.args.rooms.now c.args.length c.in-Some.room.now are (omega (arith, inside))

pub returns-in-None-clause-is : goal.returns-in-None-clause-is
returns-in-None-clause-is c = λ numbers are. room_past numbers c.args.rooms.now c.args.length are (ltb-false c.args.length (length c.args.rooms.now) (sym c.in-None.ensures.lookup.0))
