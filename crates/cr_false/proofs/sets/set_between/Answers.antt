use Rattle.cr_false.proofs.Room.{room_of_pairs}
use Rattle.cr_false.proofs.sets.set_between.Goals as goal

pub false_rows-requires-clause-room : goal.false_rows-requires-clause-room
false_rows-requires-clause-room c =
    room_of_pairs c.rows_cancel.ensures.right c.requires.alike.stage c.args.rows.now c.args.others.now c.pairs_of-most.result c.requires.alike.others_are c.pairs_of-most.ensures.is
