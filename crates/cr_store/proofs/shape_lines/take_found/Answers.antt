use Rattle.cr_model.proofs.Lacking.{if_none}
use Rattle.cr_store.specs.Shapes.{IsFoundLine}
use Rattle.cr_store.specs.ShapeSteps.{found_body}
use Rattle.cr_store.proofs.ShapeBodies.{no_line, found_lacks}
use Rattle.cr_store.proofs.shape_lines.take_found.Goals as goal

pub returns-in_err-found-clause-none : goal.returns-in_err-found-clause-none
returns-in_err-found-clause-none c =
    if_none c.from_residual-in_err-found.result _
    (no_line found_body IsFoundLine found_lacks c.args.text.now
    c.in_ok-line.line.now c.in_ok-line.rest.now c.in_ok-line.ensures.some.0 c.in_ok-line.ensures.some.1 c.in_err-found.ensures.none)
