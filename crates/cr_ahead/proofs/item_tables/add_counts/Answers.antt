-- One table more.
use Rattle.std.proofs.Common.{◌+◌, ◌<◌, ◌++◌, length, map, take, refl, sym, subst, arith}
use Rattle.cr_ahead.specs.Items.{count_item}
use Rattle.cr_ahead.specs.Outlooks.{AreItemTables}
use Rattle.cr_ahead.proofs.ItemTables.{one_added}
use Rattle.cr_ahead.proofs.item_tables.add_counts.Goals as goal

pub loop-index-preserved : goal.loop-index-preserved
loop-index-preserved c =
    let p = c.args.problem.now in
    let heads = c.args.heads.now in
    let unit = c.args.range.unit in
    let index = c.loop-index.index in
    let xs = c.counts_of-counts.result.now in
    let inside : index < length xs = omega (arith, c.loop-index-test.true, c.loop-index.auto.index-end) in
    record {
      ground = c.in_ok-count_table.ensures.ground;
      tables = λ items before.
          subst (AreItemTables p heads unit (items ++ map (count_item p) (take (index + 1) xs))) (sym c.in_ok-push.ensures.items)
          (one_added (count_item p) p heads unit items xs index _ _ c.loop-index.tables.items c.in_ok-count_table.field-0 inside refl
          (c.loop-index.invariant.tables items before) c.in_ok-count_table.ensures.table);
    }
