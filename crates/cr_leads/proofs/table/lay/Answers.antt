use Rattle.std.proofs.Common.{◌≡◌, ◌++◌, ap, ◌∙◌, arith}
use Rattle.cr_row.specs.Rows.{rounds}
use Rattle.cr_model.specs.Callings.{rows_from}
use Rattle.cr_leads.proofs.Laying.{leads_more}
use Rattle.cr_leads.proofs.table.lay.Goals as goal

pub returns-clause-leads : goal.returns-clause-leads
returns-clause-leads c =
    let rung : c.ring_changes.new.rows.items ≡ c.args.rows.now.items ++ rows_from (rounds c.args.stage) c.args.changes.now =
    c.in_ok-ring_changes.ensures ∙ ap (λ row. c.args.rows.now.items ++ rows_from row c.args.changes.now) c.rounds.ensures.is in
    leads_more c.args.rows.now.items (rows_from (rounds c.args.stage) c.args.changes.now) c.args.spans.now.items
    (record { start = c.len-start.result; end = c.len-end.result }) _ _ rung c.in_ok-push.ensures.items c.requires.within
    (omega (arith, c.len-start.ensures, c.args.rows.now.ok.0)) (omega (arith, c.len-end.ensures, c.ring_changes.new.rows.ok.0))
