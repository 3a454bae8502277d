use Rattle.std.proofs.Common.{◌≡◌, ℕ, ◌+◌, ◌∷◌, cond, drop, suc, sym, ap, ◌∙◌, subst, arith}
use Rattle.std.proofs.lemmas.List.{drop_more}
use Rattle.cr_row.specs.Rows.{after}
use Rattle.cr_model.specs.Callings.{rows_from}
use Rattle.cr_model.specs.Queries.{fits, rows_fitting}
use Rattle.cr_audit.proofs.Fits.{fitting_step}
use Rattle.cr_audit.proofs.counting.rung_fitting.Goals as goal
use Rattle.cr_audit.proofs.counting.rung_fitting.Goals.{then-fits, else-fits}

pub loop-change-preserved : goal.loop-change-preserved
loop-change-preserved c =
    let cells = c.args.cells.now in
    let change = c.change-item.result in
    let row = c.loop-change.row in
    let index = c.loop-change.change-index in
    let later = drop (index + 1) c.args.changes.now in
    let next : drop index c.args.changes.now ≡ change ∷ later =
    drop_more c.args.changes.now index change c.loop-change-test.true ∙ ap (λ first. first ∷ later) (sym c.change-item.is) in
    let one : rows_fitting cells (rows_from row (drop index c.args.changes.now)) ≡ cond {A = ℕ} c.fits.result 1 0 + rows_fitting cells (rows_from c.then-row.result later) =
    ap (λ cs. rows_fitting cells (rows_from row cs)) next ∙ fitting_step cells row change later
    ∙ ap (λ r. cond {A = ℕ} (fits cells r) 1 0 + rows_fitting cells (rows_from r later)) (sym c.then-row.ensures.is)
    ∙ ap (λ b. cond {A = ℕ} b 1 0 + rows_fitting cells (rows_from c.then-row.result later)) (sym c.fits.ensures) in
    elim c.if-fits.branch [
      | then-fits w ↦
          let here : rows_fitting cells (rows_from row (drop index c.args.changes.now)) ≡ 1 + rows_fitting cells (rows_from c.then-row.result later) =
          one ∙ ap (λ b. cond {A = ℕ} b 1 0 + rows_fitting cells (rows_from c.then-row.result later)) w.if-fits.true in
          record {
            long = c.then-row.ensures.same_stage ∙ c.loop-change.invariant.long;
            counted = omega (arith, w.number-is, here, c.loop-change.invariant.counted);
            few = omega (arith, w.number-is, c.loop-change.invariant.few);
          }
      | else-fits w ↦
          let here : rows_fitting cells (rows_from row (drop index c.args.changes.now)) ≡ 0 + rows_fitting cells (rows_from c.then-row.result later) =
          one ∙ ap (λ b. cond {A = ℕ} b 1 0 + rows_fitting cells (rows_from c.then-row.result later)) w.if-fits.false in
          record {
            long = c.then-row.ensures.same_stage ∙ c.loop-change.invariant.long;
            counted = omega (arith, w.number-is, here, c.loop-change.invariant.counted);
            few = omega (arith, w.number-is, c.loop-change.invariant.few);
          }
    ]
