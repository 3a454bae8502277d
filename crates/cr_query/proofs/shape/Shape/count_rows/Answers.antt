use Rattle.std.proofs.Common.{◌≡◌, count_by, ap, ◌∙◌, arith}
use Rattle.std.proofs.lemmas.List.{take_all}
use Rattle.cr_query.specs.Shapes.{has_shape}
use Rattle.cr_query.proofs.Fitting.{count_fitting}
use Rattle.cr_query.proofs.shape.Shape.count_rows.Goals as goal

pub returns-clause-of_cells : goal.returns-clause-of_cells
returns-clause-of_cells c = λ cells fitting is.
    let told : c.loop-row.number ≡ count_by (has_shape c.args.self.now) c.args.rows.now = c.loop-row.invariant.0 ∙ ap (count_by (has_shape c.args.self.now)) (take_all c.loop-row.row-index c.args.rows.now (omega arith)) in
    told ∙ ap (λ shape. count_by (has_shape shape) c.args.rows.now) is ∙ count_fitting c.args.self.now.stage cells c.args.rows.now c.requires fitting
