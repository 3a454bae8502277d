use Rattle.cr_model.specs.Texts.{IsNumber, named}
use Rattle.cr_model.proofs.Lacking.{if_none}
use Rattle.cr_store.proofs.ShapeBodies.{no_line, named_lacks}
use Rattle.cr_store.proofs.shape_lines.take_number.Goals as goal

pub returns-in_err-number-clause-none : goal.returns-in_err-number-clause-none
returns-in_err-number-clause-none c =
    if_none c.from_residual-in_err-number.result _
    (no_line (named c.args.word.now) IsNumber (λ n small. named_lacks c.args.word.now n c.requires small) c.args.text.now
    c.in_ok-line.line.now c.in_ok-line.rest.now c.in_ok-line.ensures.some.0 c.in_ok-line.ensures.some.1 c.in_err-number.ensures.none)
