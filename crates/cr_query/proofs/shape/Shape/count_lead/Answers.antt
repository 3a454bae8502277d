use Rattle.std.proofs.Common.{◌≡◌, count_by, map, ap, sym, ◌∙◌, arith}
use Rattle.std.proofs.lemmas.List.{take_all}
use Rattle.cr_row.specs.Rows.{product}
use Rattle.cr_query.specs.Shapes.{has_shape}
use Rattle.cr_query.proofs.Fitting.{count_fitting, count_mapped, products_long}
use Rattle.cr_query.proofs.shape.Shape.count_lead.Goals as goal

pub returns-clause-is : goal.returns-clause-is
returns-clause-is c =
    let told : c.loop-row.number ≡ count_by (λ row. has_shape c.args.self.now (product c.args.head.now row)) c.args.lead.now = c.loop-row.invariant.0 ∙ ap (count_by (λ row. has_shape c.args.self.now (product c.args.head.now row))) (take_all c.loop-row.row-index c.args.lead.now (omega arith)) in
    told ∙ sym (count_mapped (has_shape c.args.self.now) (product c.args.head.now) c.args.lead.now)

pub returns-clause-of_cells : goal.returns-clause-of_cells
returns-clause-of_cells c = λ cells fitting is.
    let told : c.loop-row.number ≡ count_by (λ row. has_shape c.args.self.now (product c.args.head.now row)) c.args.lead.now = c.loop-row.invariant.0 ∙ ap (count_by (λ row. has_shape c.args.self.now (product c.args.head.now row))) (take_all c.loop-row.row-index c.args.lead.now (omega arith)) in
    told ∙ sym (count_mapped (has_shape c.args.self.now) (product c.args.head.now) c.args.lead.now)
    ∙ ap (λ shape. count_by (has_shape shape) (map (product c.args.head.now) c.args.lead.now)) is
    ∙ count_fitting c.args.self.now.stage cells (map (product c.args.head.now) c.args.lead.now) (products_long c.args.self.now.stage c.args.head.now c.args.lead.now c.requires.lead) fitting
