use Rattle.std.proofs.Common.{◌≡◌, ap, ◌∙◌, rules}
use Rattle.cr_query.specs.Shapes.{has_shape}
use Rattle.cr_query.proofs.Fitting.{fits_shape}
use Rattle.cr_query.proofs.shape.Shape.fits.Goals as goal

pub returns-clause-of_cells : goal.returns-clause-of_cells
returns-clause-of_cells c = λ cells fitting is.
    let told : c.has_all.result ≡ has_shape c.args.self.now c.args.row.now = search rules in
    told ∙ ap (λ shape. has_shape shape c.args.row.now) is ∙ fits_shape c.args.self.now.stage cells c.args.row.now c.requires fitting
