use Rattle.std.proofs.Common.{◌≡◌, ◌+◌, ◌∷◌, drop, sym, ap, ◌∙◌}
use Rattle.std.proofs.lemmas.List.{drop_more}
use Rattle.cr_model.specs.Callings.{rows_from, last_of}
use Rattle.cr_audit.proofs.places.last_after.Goals as goal

pub loop-change-preserved : goal.loop-change-preserved
loop-change-preserved c =
    let change = c.change-item.result in
    let row = c.loop-change.row in
    let later = drop (c.loop-change.change-index + 1) c.args.changes.now in
    let next : drop c.loop-change.change-index c.args.changes.now ≡ change ∷ later =
    drop_more c.args.changes.now c.loop-change.change-index change c.loop-change-test.true ∙ ap (λ first. first ∷ later) (sym c.change-item.is) in
    record {
      long = c.then-row.ensures.same_stage ∙ c.loop-change.invariant.long;
      last = ap (λ r. last_of r (rows_from r later)) c.then-row.ensures.is ∙ sym (ap (λ cs. last_of row (rows_from row cs)) next) ∙ c.loop-change.invariant.last;
    }
