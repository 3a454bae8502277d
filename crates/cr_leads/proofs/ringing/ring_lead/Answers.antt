use Rattle.std.proofs.Common.{◌≡◌, ◌+◌, ◌++◌, [], ◌∷◌, map, take, sym, ap, ◌∙◌, arith, append_assoc}
use Rattle.std.proofs.lemmas.List.{map_more}
use Rattle.cr_row.specs.Rows.{product}
use Rattle.cr_model.specs.Callings.{last_of}
use Rattle.cr_model.proofs.Ringing.{last_of-append}
use Rattle.cr_leads.proofs.ringing.ring_lead.Goals as goal

pub loop-row-preserved : goal.loop-row-preserved
loop-row-preserved c =
    let head = c.args.head in
    let index = c.loop-row.row-index in
    let row = c.row-item.result in
    let before = map (product head) (take index c.args.lead.now) in
    let next : map (product head) (take (index + 1) c.args.lead.now) ≡ before ++ product head row ∷ [] =
    map_more (product head) c.args.lead.now index row (omega arith) ∙ ap (λ r. before ++ product head r ∷ []) (sym c.row-item.is) in
    record {
      rows = c.in_ok-push.ensures.items ∙ rw (c.times-last.ensures.is, next, c.loop-row.invariant.rows) (append_assoc c.args.rows.now.items before (product head row ∷ []));
      last = c.times-last.ensures.is ∙ sym (last_of-append head before (product head row ∷ [])) ∙ ap (last_of head) (sym next);
    }
