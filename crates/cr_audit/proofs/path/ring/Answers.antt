use Rattle.std.proofs.Common.{◌≡◌, ◌+◌, ◌++◌, [], ◌∷◌, drop, suc, sym, ap, ◌∙◌, arith, append_assoc, add-one, drop-cons}
use Rattle.cr_row.specs.Rows.{after}
use Rattle.cr_model.specs.Callings.{rows_from}
use Rattle.cr_audit.proofs.path.ring.Goals as goal

pub loop-change-preserved : goal.loop-change-preserved
loop-change-preserved c =
    let change = c.change-item.result in
    let row = c.loop-change.row in
    let index = c.loop-change.change-index in
    let later = drop (index + 1) c.args.changes.now in
    let next : drop index c.args.changes.now ≡ change ∷ later =
    rw add-one (drop-cons c.args.changes.now index change (omega arith) ∙ ap (λ first. first ∷ drop (suc index) c.args.changes.now) (sym c.change-item.is)) in
    record {
      long = c.then-row.ensures.same_stage ∙ c.loop-change.invariant.long;
      rows = rw (c.in_ok-push.ensures.items, c.then-row.ensures.is) (
          append_assoc c.loop-change.rows.items (after change row ∷ []) (rows_from (after change row) later)
          ∙ sym (ap (λ changes. c.loop-change.rows.items ++ rows_from row changes) next)
          ∙ c.loop-change.invariant.rows);
    }
