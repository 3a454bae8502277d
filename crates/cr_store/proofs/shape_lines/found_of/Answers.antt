use Rattle.std.proofs.lemmas.Bool.{iff_false}
use Rattle.cr_model.proofs.Lacking.{if_none}
use Rattle.cr_store.proofs.ShapeBodies.{no_length, no_calling}
use Rattle.cr_store.proofs.shape_lines.found_of.Goals as goal

pub returns-in_err-length-clause-none : goal.returns-in_err-length-clause-none
returns-in_err-length-clause-none c =
    if_none c.from_residual-in_err-length.result _
    (no_length c.args.line.now c.in_ok-digits.digits.now c.in_ok-digits.calling.now c.in_ok-digits.ensures.some.0 c.in_ok-digits.ensures.some.1
    c.in_err-length.ensures.none)

pub returns-else-are_letters-clause-none : goal.returns-else-are_letters-clause-none
returns-else-are_letters-clause-none c =
    no_calling c.args.line.now c.in_ok-digits.digits.now c.in_ok-digits.calling.now c.in_ok-digits.ensures.some.0 c.in_ok-digits.ensures.some.1
    (iff_false c.are_letters.ensures c.if-are_letters.false)
