use Rattle.std.proofs.Common.{◌≡◌, sym, ap, ◌∙◌, subst}
use Rattle.cr_model.specs.Queries.{rows_fitting}
use Rattle.cr_model.specs.Right.{FitsStage}
use Rattle.cr_query.specs.Shapes.{ShapeParts, shape_of}
use Rattle.cr_query.proofs.meeting.meets_pattern.Goals as goal

pub returns : goal.returns
returns c =
    let pattern = c.args.pattern.now in
    let cells : c.deref.result.now ≡ pattern.cells = c.deref.ensures.value ∙ ap (λ p. p.cells) c.pattern.view_is in
    let shape : c.in_ok-shape.shape ≡ shape_of c.args.stage pattern.cells = c.in_ok-shape.ensures ∙ ap (shape_of c.args.stage) cells in
    let stage : c.in_ok-shape.shape.stage ≡ c.args.stage = ap (λ (s : ShapeParts). s.stage) shape in
    let number : c.count_rows.result ≡ rows_fitting pattern.cells c.args.rows.now =
    c.count_rows.ensures.of_cells pattern.cells (subst (λ n. FitsStage n pattern.cells) (sym stage) c.requires.cells) (shape ∙ ap (λ n. shape_of n pattern.cells) (sym stage)) in
    rw number at c.is_met.ensures
