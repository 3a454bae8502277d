use Rattle.std.proofs.Common.{◌≡◌, count_by, ap, ◌∙◌, arith}
use Rattle.std.proofs.lemmas.List.{take_all}
use Rattle.cr_query.specs.Shapes.{has_shape}
use Rattle.cr_query.proofs.Fitting.{count_fitting}
use Rattle.cr_log.proofs.counting.rows_fitting.Goals as goal

pub returns-clause-is : goal.returns-clause-is
returns-clause-is c = λ cells fitting is.
    let rows = c.args.rows.now.rows in
    let told : c.loop-place.number ≡ count_by (has_shape c.args.shape.now) rows
    = c.loop-place.invariant.0 ∙ ap (count_by (has_shape c.args.shape.now)) (take_all c.loop-place.place rows (omega (arith, c.len-place-end.ensures.is))) in
    told ∙ ap (λ shape. count_by (has_shape shape) rows) is ∙ count_fitting c.args.shape.now.stage cells rows c.requires fitting
