-- Without items no gain is asked for.
use Rattle.std.proofs.Common.{arith}
use Rattle.cr_ahead.specs.Exact.{head_items}
use Rattle.cr_ahead.proofs.ItemTables.{home_of, empty_list}
use Rattle.cr_ahead.proofs.item_tables.home_table.Goals as goal

pub returns : goal.returns
returns c = (
  empty_list (head_items c.args.problem.now) (omega (arith, c.table_count.ensures.is, c.if-table_count-gt0.false)),
  home_of c.args.problem.now c.args.heads.now c.args.range c.args.moves.now c.in_ok-table.table c.requires.ground c.requires.gains c.in_ok-table.ensures,
)
