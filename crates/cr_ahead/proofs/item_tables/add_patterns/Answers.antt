-- One table more.
use Rattle.std.proofs.Common.{◌+◌, ◌<◌, ◌++◌, length, map, take, sym, subst, arith}
use Rattle.cr_ahead.specs.Items.{pattern_item}
use Rattle.cr_ahead.specs.Outlooks.{AreItemTables}
use Rattle.cr_ahead.proofs.ItemTables.{one_added}
use Rattle.cr_ahead.proofs.item_tables.add_patterns.Goals as goal

pub loop-index-preserved : goal.loop-index-preserved
loop-index-preserved c =
    let p = c.args.problem.now in
    let heads = c.args.heads.now in
    let unit = c.args.range.unit in
    let index = c.loop-index.index in
    let xs = c.patterns_of-patterns.result.now in
    let inside : index < length xs = omega (arith, c.loop-index-test.true, c.loop-index.auto.index-end) in
    record {
      ground = c.in_ok-pattern_table.ensures.ground;
      tables = λ items before.
          subst (AreItemTables p heads unit (items ++ map (pattern_item p) (take (index + 1) xs))) (sym c.in_ok-push.ensures.items)
          (one_added (pattern_item p) p heads unit items xs index c.index-patterns-index.result c.index-patterns-index.result c.loop-index.tables.items c.in_ok-pattern_table.field-0 inside c.index-patterns-index.is
          (c.loop-index.invariant.tables items before) c.in_ok-pattern_table.ensures.table);
    }
