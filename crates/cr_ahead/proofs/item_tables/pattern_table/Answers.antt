-- In one part the rows that fit add up.
use Rattle.std.proofs.Common.{◌≡◌, List, [], length, get_or, ap, ◌∙◌, arith}
use Rattle.std.proofs.lemmas.Int.{to_z-of_z}
use Rattle.cr_model.specs.declared.query.Cell.{Cell}
use Rattle.cr_ahead.specs.Items.{pattern_item}
use Rattle.cr_ahead.specs.LeadMoves.{fitting_gain}
use Rattle.cr_ahead.specs.Gaining.{gains_from}
use Rattle.cr_ahead.proofs.ItemTables.{gains_counted, rows_add, table_by}
use Rattle.cr_ahead.proofs.item_tables.pattern_table.Goals as goal

pub table_by-requires : goal.table_by-requires
table_by-requires c =
    gains_counted c.args.problem.now c.args.heads.now c.args.range c.args.moves.now
    (λ place step. fitting_gain c.args.problem.now c.deref.result.now (get_or c.args.heads.now place []) step) c.in_ok-gains.gains.items
    c.requires.ground c.in_ok-gains.ensures

pub returns-clause-table : goal.returns-clause-table
returns-clause-table c =
    let p = c.args.problem.now in
    let heads = c.args.heads.now in
    let cells : c.deref.result.now ≡ c.args.pattern.now.cells = c.deref.ensures.value ∙ ap (λ pattern. pattern.cells) c.pattern.view_is in
    let gains : c.in_ok-gains.gains.items ≡ gains_from (length heads) (length p.leads) (λ place step. fitting_gain p c.args.pattern.now.cells (get_or heads place []) step) =
    c.in_ok-gains.ensures ∙ ap (λ (some : List Cell). gains_from (length heads) (length p.leads) (λ place step. fitting_gain p some (get_or heads place []) step)) cells in
    record {
      min = grind (arith, to_z-of_z);
      max = grind (arith, to_z-of_z);
      table = table_by p heads c.args.range c.args.moves.now c.in_ok-gains.gains.items (pattern_item p c.args.pattern.now) c.in_ok-table.table c.requires.ground
          (rows_add p heads c.in_ok-gains.gains.items c.args.pattern.now c.requires.ground.sound c.requires.one gains) c.in_ok-table.ensures.table;
    }
