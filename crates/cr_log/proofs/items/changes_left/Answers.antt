use Rattle.std.proofs.Common.{arith}
use Rattle.cr_query.proofs.Sizes.{cap_short}
use Rattle.cr_log.proofs.Places.{rows_number}
use Rattle.cr_log.proofs.items.changes_left.Goals as goal

pub returns-clause-is : goal.returns-clause-is
returns-clause-is c =
    omega (arith, c.len.ensures.is, rows_number c.args.problem.now c.args.node.now c.args.rows.now c.requires.at, c.cap.ensures)

pub returns-clause-few : goal.returns-clause-few
returns-clause-few c = omega (arith, c.cap.ensures, cap_short c.args.problem.now c.requires.at.sound)
