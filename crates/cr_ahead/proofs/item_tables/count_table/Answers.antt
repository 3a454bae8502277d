-- The gains of the count's leads add up to what it counts.
use Rattle.std.proofs.Common.{arith}
use Rattle.std.proofs.lemmas.Int.{to_z-of_z}
use Rattle.cr_ahead.specs.Items.{count_item}
use Rattle.cr_ahead.specs.LeadMoves.{marked_gain}
use Rattle.cr_ahead.proofs.ItemTables.{gains_counted, marks_add, table_by}
use Rattle.cr_ahead.proofs.item_tables.count_table.Goals as goal

pub table_by-requires : goal.table_by-requires
table_by-requires c =
    gains_counted c.args.problem.now c.args.heads.now c.args.range c.args.moves.now (λ place step. marked_gain c.args.problem.now c.args.count.mark step) c.in_ok-gains.gains.items
    c.requires c.in_ok-gains.ensures

pub returns-clause-table : goal.returns-clause-table
returns-clause-table c =
    let p = c.args.problem.now in
    record {
      min = grind (arith, to_z-of_z);
      max = grind (arith, to_z-of_z);
      table = table_by p c.args.heads.now c.args.range c.args.moves.now c.in_ok-gains.gains.items (count_item p c.args.count) c.in_ok-table.table c.requires
          (marks_add p c.args.heads.now c.in_ok-gains.gains.items c.args.count c.requires.sound c.in_ok-gains.ensures) c.in_ok-table.ensures.table;
    }
