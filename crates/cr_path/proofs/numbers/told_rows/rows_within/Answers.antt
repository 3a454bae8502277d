use Rattle.std.proofs.Common.{◌≡◌, ◌<◌, ℕ, List, length, All, refl, sym, ap, subst, arith}
use Rattle.cr_leads.specs.Tables.{lead_table, leads_counted, rows_of_step}
use Rattle.cr_false.proofs.Between.{told_rows}
use Rattle.cr_path.proofs.numbers.told_rows.rows_within.Goals as goal

pub rows_of-requires-2 : goal.rows_of-requires-2
rows_of-requires-2 c =
    let p = c.args.leads.now in
    omega (arith, c.requires.step, c.requires.telling.of_leads.counted, leads_counted (lead_table p) p refl)

pub returns-clause-few : goal.returns-clause-few
returns-clause-few c =
    let p = c.args.leads.now in
    let inside = subst (λ n. c.args.step < n) (sym (leads_counted (lead_table p) p refl)) c.requires.step in
    let some = c.requires.telling.of_leads.some c.args.step inside in
    omega (arith, some.few, ap length c.rows_of-2.ensures, ap length (rows_of_step (lead_table p) p c.args.step refl inside), c.rows_of.ensures.few, ap length c.rows_of.ensures.is)

pub returns-clause-same_stage : goal.returns-clause-same_stage
returns-clause-same_stage c =
    let p = c.args.leads.now in
    subst (All (λ (row : List ℕ). length row ≡ p.stage)) (sym c.rows_of-2.ensures) (λ k d low. (told_rows p c.args.told.now c.requires.telling c.args.step c.requires.step k d low).1)
