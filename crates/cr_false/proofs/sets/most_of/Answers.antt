use Rattle.cr_false.proofs.Room.{room_of_pairs}
use Rattle.cr_false.proofs.sets.most_of.Goals as goal

pub returns-clause-room : goal.returns-clause-room
returns-clause-room c =
    let table = c.args.leads.now in
    let rows = c.rows_of-rows in
    let others = c.rows_of-others in
    rw (rows.ensures.is, others.ensures.is) at
    (room_of_pairs c.rows_cancel.ensures.right table.stage rows.result.now others.result.now c.pairs_of.result others.ensures.are_rows c.pairs_of.ensures.is)
