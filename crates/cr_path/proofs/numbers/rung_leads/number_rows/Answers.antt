use Rattle.std.proofs.Common.{◌≡◌, ◌+◌, ◌++◌, ◌∷◌, [], ℕ, List, map, take, sym, subst, arith}
use Rattle.cr_row.specs.Rows.{product}
use Rattle.cr_path.specs.RungLeads.{HasNumber, AreNumbered}
use Rattle.cr_path.proofs.Grown.{map_more, numbered_more}
use Rattle.cr_path.proofs.numbers.rung_leads.number_rows.Goals as goal

pub loop-row-preserved : goal.loop-row-preserved
loop-row-preserved c =
    let head = c.args.head in
    let lead = c.args.lead.now in
    let index = c.loop-row.row-index in
    let row = c.row-item.result in
    let before = map (product head) (take index lead) in
    let old = c.args.rows.now.rows in
    let next : before ++ product head row ∷ [] ≡ map (product head) (take (index + 1) lead) =
    sym (map_more (product head) lead index row (omega arith) c.row-item.is) in
    subst (λ (rung : List (List ℕ)). AreNumbered old c.args.numbers.now.items rung c.number.new.rows.rows c.push.new.self.items) next
    (numbered_more old c.loop-row.rows.rows c.number.new.rows.rows c.args.numbers.now.items c.loop-row.numbers.items c.push.new.self.items
    before (product head row) c.in_ok-number.field-0 c.loop-row.invariant
    (subst (λ (r : List ℕ). HasNumber c.loop-row.rows.rows r c.in_ok-number.field-0 c.number.new.rows.rows) c.times.ensures.is c.in_ok-number.ensures.is)
    c.in_ok-push.ensures.items)
