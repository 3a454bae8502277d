use Rattle.std.proofs.Common.{List, ℕ, map, subst}
use Rattle.cr_row.specs.Rows.{product}
use Rattle.cr_path.specs.Begun.{numbers_in}
use Rattle.cr_path.specs.RungLeads.{AreNumbered}
use Rattle.cr_path.proofs.Placed.{numbered_places}
use Rattle.cr_path.proofs.Recorded.{begun_rows}
use Rattle.cr_path.proofs.numbers.rung_leads.number_told.Goals as goal

pub returns-clause-names : goal.returns-clause-names
returns-clause-names c =
    let rung : List (List ℕ) = map (product c.args.head) c.args.told.now in
    let old = c.args.made.now.rows.rows in
    let new = c.number_rows.new.rows.rows in
    let names = c.number_rows.new.numbers.items in
    numbered_places old rung new names
    (subst (λ (before : List ℕ). AreNumbered old before rung new names) c.clear.ensures.items c.in_ok-number_rows.ensures)

pub returns-clause-begun : goal.returns-clause-begun
returns-clause-begun c = λ p telling done begun.
    begun_rows p telling (numbers_in p c.args.made.now) c.number_rows.new.rows.rows done begun c.in_ok-number_rows.ensures.kept c.len.ensures.different
