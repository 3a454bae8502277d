use Rattle.std.proofs.Common.{[], get_or, subst}
use Rattle.cr_leads.specs.Tables.{AreRows, lead_rows}
use Rattle.cr_false.proofs.SomeRows.{pair_told, told_alike}
use Rattle.cr_false.proofs.told_apart.tells_pair.Goals as goal

pub set_between-requires-clause-alike : goal.set_between-requires-clause-alike
set_between-requires-clause-alike c =
    let table = c.args.leads.now in
    let told = c.args.told.now in
    let some = c.requires.of_leads.some in
    rw (c.rows_of-told_rows.ensures, c.rows_of-told_others.ensures)
    (told_alike table (lead_rows table c.args.step) (lead_rows table c.args.other) (get_or told c.args.step []) (get_or told c.args.other [])
    (subst (AreRows table.stage) c.rows_of-rows.ensures.is c.rows_of-rows.ensures.lead.are_rows) (subst (AreRows table.stage) c.rows_of-others.ensures.is c.rows_of-others.ensures.lead.are_rows)
    (some c.args.step c.requires.step) (some c.args.other c.requires.other))

pub returns : goal.returns
returns c = λ e.
    let told =
    pair_told c.args.leads.now c.rows_of-rows.result.now c.rows_of-others.result.now c.rows_of-told_rows.result.now c.rows_of-told_others.result.now c.in_ok-set.set.rows
    c.args.common.now.bells.items c.args.common.now.even c.requires.common c.rows_of-others.ensures.lead.are_rows c.in_ok-set.ensures (c.has_all.ensures e) in
    rw (c.rows_of-rows.ensures.is, c.rows_of-others.ensures.is, c.rows_of-told_rows.ensures, c.rows_of-told_others.ensures) at told
