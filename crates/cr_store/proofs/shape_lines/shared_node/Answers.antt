use Rattle.std.proofs.lemmas.Bool.{iff_false}
use Rattle.cr_model.proofs.Lacking.{if_none}
use Rattle.cr_store.proofs.ShapeBodies.{no_share, no_steps}
use Rattle.cr_store.proofs.shape_lines.shared_node.Goals as goal

pub returns-in_err-shared-clause-none : goal.returns-in_err-shared-clause-none
returns-in_err-shared-clause-none c =
    if_none c.from_residual-in_err-shared.result _
    (no_share c.args.line.now c.in_ok-digits.digits.now c.in_ok-digits.steps.now c.in_ok-digits.ensures.some.0 c.in_ok-digits.ensures.some.1
    c.in_err-shared.ensures.none)

pub returns-else-are_steps-clause-none : goal.returns-else-are_steps-clause-none
returns-else-are_steps-clause-none c =
    no_steps c.args.line.now c.in_ok-digits.digits.now c.in_ok-digits.steps.now c.in_ok-digits.ensures.some.0 c.in_ok-digits.ensures.some.1
    (iff_false c.are_steps.ensures c.if-are_steps.false)
