use Rattle.cr_leads.proofs.Keys.{sorted_keys_tell}
use Rattle.cr_leads.proofs.differing.rows_differ.Goals as goal

pub returns : goal.returns
returns c =
    let told =
    sorted_keys_tell c.keys_tell_rows_apart.ensures c.args.rows.now c.in_ok-keys_of.field-0.items c.sorted-keys.result.items
    c.requires c.in_ok-keys_of.ensures c.sorted-keys.ensures.moved c.sorted-keys.ensures.ordered in
    let up = rw c.deref.ensures.value at c.ascend.ensures in
    (λ ascends. told.0 (up.0 ascends), λ differ. up.1 (told.1 differ))
