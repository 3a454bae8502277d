-- The row between the heads is false exactly where the leads share a row.
use Rattle.std.proofs.Common.{◌↔◌, ◌<◌, ℕ, List, length, subst}
use Rattle.std.specs.Prelude.{IsTrue}
use Rattle.cr_leads.specs.Tables.{lead_table, lead_rows}
use Rattle.cr_false.specs.Sets.{IsFalse}
use Rattle.cr_prune.proofs.Clashes.{known_steps}
use Rattle.cr_prune.proofs.heads.clash.Goals as goal

pub returns : goal.returns
returns c p head is row long from undoes =
    let steps = known_steps p c.args.table.now is in
    let a = c.args.earlier.now.step in
    let a_in : a < length p.leads = subst (λ (n : ℕ). a < n) steps c.requires.known in
    let b_in : c.args.step < length p.leads = subst (λ (n : ℕ). c.args.step < n) steps c.requires.step in
    let told = subst (λ (between : List ℕ). IsTrue c.clash.result ↔ IsFalse (lead_rows (lead_table p) a) (lead_rows (lead_table p) c.args.step) between) c.times.ensures.is
    (c.clash.ensures (lead_table p) is) in
    let law = c.a_clash_is_a_shared_row.ensures p a c.args.step head c.args.from.now c.args.earlier.now.inverse a_in b_in row c.stage.ensures.is_row long from undoes in
    (λ h. law.0 (told.0 h), λ shared. told.1 (law.1 shared))
