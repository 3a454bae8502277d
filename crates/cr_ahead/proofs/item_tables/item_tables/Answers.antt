-- The items one kind after another.
use Rattle.std.proofs.Common.{List, [], ◌++◌, map, sym, subst}
use Rattle.std.proofs.lemmas.List.{append_assoc}
use Rattle.cr_ahead.specs.Items.{Item, count_item, method_item, pattern_item}
use Rattle.cr_ahead.specs.Exact.{exact_patterns}
use Rattle.cr_ahead.specs.Outlooks.{AreItemTables}
use Rattle.cr_ahead.proofs.item_tables.item_tables.Goals as goal

pub returns : goal.returns
returns c =
    let p = c.args.problem.now in
    let heads = c.args.heads.now in
    let unit = c.args.range.unit in
    let marks : List Item = map (count_item p) p.query.counts in
    let letters : List Item = map (method_item p) p.query.method_counts in
    let rows : List Item = map (pattern_item p) (exact_patterns p) in
    subst (λ (items : List Item). AreItemTables p heads unit items c.add_patterns.new.tables.items) (append_assoc marks letters rows)
    (c.in_ok-add_patterns.ensures (marks ++ letters)
    (c.in_ok-add_method_counts.ensures.tables marks
    (c.in_ok-add_counts.ensures.tables [] (subst (AreItemTables p heads unit []) (sym c.in_ok-tables.ensures.items) tt))))
