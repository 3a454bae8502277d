-- One cell more.
use Rattle.std.proofs.Common.{◌≡◌, ◌+◌, ◌<◌, ◌∷◌, [], ◌++◌, ◌∙◌, length, ap, sym, subst, arith, length-append}
use Rattle.cr_ahead.specs.declared.gains.Gains.{Gains}
use Rattle.cr_ahead.specs.Moves.{places_of}
use Rattle.cr_ahead.specs.Cells.{told_by, cell_of}
use Rattle.cr_ahead.specs.Rows.{AreFew, AreRight}
use Rattle.cr_ahead.proofs.Filling.{few_more, right_more}
use Rattle.cr_ahead.proofs.rows.push_row.Goals as goal

pub loop-place-preserved : goal.loop-place-preserved
loop-place-preserved c =
    let m = c.args.moves.now in
    let kept = c.loop-place.invariant in
    let cells = c.loop-place.cells.items in
    let cell = c.cell_from-cell.result in
    let gains = told_by cell in
    let within : c.loop-place.place < places_of m = omega (arith, c.loop-place-test.true, c.places-place-end.ensures.is) in
    let pushed : c.push.new.self.items ≡ cells ++ cell_of gains ∷ [] = c.in_ok-push.ensures.items ∙ ap (λ (one : Gains). cells ++ one ∷ []) c.cell_from-cell.ensures.cell in
    let long : length c.push.new.self.items ≡ length cells + 1 = ap length pushed ∙ length-append cells (cell_of gains ∷ []) in
    record {
      counted = omega (arith, long, kept.counted);
      few = subst (AreFew (places_of m)) (sym pushed)
          (few_more (places_of m) cells c.args.left c.loop-place.place gains within kept.counted c.cell_from-cell.ensures.few kept.few);
      right = subst (AreRight m c.args.least c.args.greatest) (sym pushed)
          (right_more m c.args.least c.args.greatest cells c.args.left c.loop-place.place gains within kept.counted c.cell_from-cell.ensures.few
          c.cell_from-cell.ensures.is kept.right);
    }
