use Rattle.cr_model.proofs.Lacking.{if_none}
use Rattle.cr_store.proofs.ShapeBodies.{no_node}
use Rattle.cr_store.proofs.shape_lines.take_node.Goals as goal

pub returns-in_err-node-clause-none : goal.returns-in_err-node-clause-none
returns-in_err-node-clause-none c =
    if_none c.from_residual-in_err-node.result _
    (no_node c.args.version c.args.text.now c.in_ok-line.line.now c.in_ok-line.rest.now c.in_ok-line.ensures.some.0 c.in_ok-line.ensures.some.1
    c.in_err-node.ensures.none)
